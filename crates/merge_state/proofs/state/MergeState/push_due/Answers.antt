use Rattle.summary_spec.specs.Job.{declared_of}
use Rattle.merge_state.proofs.Stepped as stepped
use Rattle.merge_state.proofs.state.MergeState.push_due.Goals as goal

pub returns-in-Ended-clause-all : goal.returns-in-Ended-clause-all
returns-in-Ended-clause-all c = λ e shape counts taken gained h.
    let d = c.args.self.now in
    stepped.end_rests (declared_of c.args.job.now) shape counts taken gained d.waiting d.marks d.profile d.counts.items d.groups d.stage h c.in-Ended.is
