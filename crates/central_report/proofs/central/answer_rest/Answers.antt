use Rattle.ds_base.specs.Copies.{copies_of}
use Rattle.summary_spec.specs.Job.{declared_of}
use Rattle.central_report.proofs.Taking.{next_of, none_left}
use Rattle.central_report.proofs.central.answer_rest.Goals as goal

pub answer-requires : goal.answer-requires
answer-requires c =
    let names = c.args.job.now.names.captures.items in
    let job = declared_of c.args.job.now in
    let h = c.requires in
    next_of names job c.loop-group.groups.held _ c.loop-group.written h.0 (copies_of c.in-Some.group) c.args.job.now.lawful
    (c.loop-group.invariant h.0 h.1) c.in-Some.ensures.first

pub returns : goal.returns
returns c = λ front h.
    none_left c.args.job.now.names.captures.items (declared_of c.args.job.now) c.loop-group.groups.held c.loop-group.written front (c.loop-group.invariant front h) c.in_default.ensures.none
