use Rattle.std.proofs.Common.{arith}
use Rattle.ds_base.specs.Copies.{copies_of}
use Rattle.summary_spec.specs.Job.{declared_of}
use Rattle.central_report.proofs.Taking.{next_of, closed_more, taken_left}
use Rattle.central_report.proofs.central.answer_closed.Goals as goal

pub answer-requires : goal.answer-requires
answer-requires c =
    let names = c.args.job.now.names.captures.items in
    let job = declared_of c.args.job.now in
    let h = c.requires in
    let now = c.loop-group.invariant h.front h.before h.reached h.taken in
    next_of names job c.loop-group.groups.held _ c.loop-group.written h.front (copies_of c.in-Some.group) c.args.job.now.lawful
    (taken_left names job c.loop-group.groups c.loop-group.written h.front now.0 now.2) c.in-Some.ensures.first

pub loop-group-preserved : goal.loop-group-preserved
loop-group-preserved c = λ front before le h.
    let names = c.args.job.now.names.captures.items in
    let job = declared_of c.args.job.now in
    let now = c.loop-group.invariant front before le h in (
      c.args.time,
      omega arith,
      closed_more names job c.loop-group.groups _ c.loop-group.written _ front now.0 c.args.time (copies_of c.in-Some.group) now.2
          (λ given placed. c.in-Some.ensures.gives job.window front given now.0 placed now.1) c.in_ok-answer.ensures,
    )
