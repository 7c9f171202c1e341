use Rattle.merge_state.proofs.Stepped as stepped
use Rattle.merge_state.proofs.laws.state_keeps_promise.Goals as goal

pub returns : goal.returns
returns c = λ job shape counts taken gained d h. stepped.keeps job shape counts taken gained d.waiting d.marks d.profile d.counts.items d.groups d.stage h
