use Rattle.merge_state.proofs.Stepped as stepped
use Rattle.merge_state.proofs.laws.links_tell.Goals as goal

pub returns : goal.returns
returns c = λ job shape counts others taken more gained d of_parsers same h.
    stepped.agrees job shape counts others taken more gained d.waiting d.marks d.profile d.counts.items d.groups d.stage of_parsers same h
