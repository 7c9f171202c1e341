-- One lane more is polled, or failed.
use Rattle.std.proofs.Common.{◌∙◌, arith}
use Rattle.shuffle_poll.proofs.Sofar.{begins, goes_on, fails_at, changed_put, changed_holds}
use Rattle.shuffle_poll.proofs.shuffle.poll_all.Goals as goal

pub lanes-init : goal.lanes-init
lanes-init g c = begins c.args.links.now.items c.args.queues.now.items c.args.cut c.new-answers.result.items c.requires c.new-answers.ensures

pub poll_at-requires-clause-there : goal.poll_at-requires-clause-there
poll_at-requires-clause-there g c =
    let far = c.lanes.invariant in
    (omega (arith, c.lanes-test.true, c.len-i-end.ensures, far.as_many), omega (arith, c.lanes-test.true, c.len-i-end.ensures, far.as_many, far.holds.as_many))

pub poll_at-requires-clause-last : goal.poll_at-requires-clause-last
poll_at-requires-clause-last g c d =
    let far = c.lanes.invariant in
    far.holds.last c.lanes.i d (omega (arith, c.lanes-test.true, c.len-i-end.ensures, far.as_many))

pub lanes-preserved : goal.lanes-preserved
lanes-preserved g c =
    let e = c.in-Ok.ensures in
    goes_on c.args.links.now.items c.lanes.links.items c.poll_at.new.links.items c.args.queues.now.items c.lanes.queues.items c.poll_at.new.queues.items c.args.cut c.lanes.i c.lanes.found c.note.new.needs
    c.lanes.answers.items c.and-answers.result.items c.in-Ok.passed c.lanes.invariant e.changes e.all_put e.stands e.fewer e.polls c.and-answers.ensures c.note.ensures.credit c.note.ensures.room c.note.ensures.moved

pub returns-in-Err-clause-holds : goal.returns-in-Err-clause-holds
returns-in-Err-clause-holds g c =
    changed_holds c.lanes.links.items c.poll_at.new.links.items c.lanes.queues.items c.poll_at.new.queues.items c.lanes.i c.lanes.invariant.holds c.in-Err.ensures.changes c.in-Err.ensures.all_put c.in-Err.ensures.stands c.in-Err.ensures.fewer

pub returns-in-Err-clause-as_many : goal.returns-in-Err-clause-as_many
returns-in-Err-clause-as_many g c = c.in-Err.ensures.changes.lengths.0 ∙ c.lanes.invariant.as_many

pub returns-in-Err-clause-all_put : goal.returns-in-Err-clause-all_put
returns-in-Err-clause-all_put g c k d =
    changed_put c.lanes.links.items c.poll_at.new.links.items c.lanes.queues.items c.poll_at.new.queues.items c.lanes.i c.in-Err.ensures.changes c.in-Err.ensures.all_put k d ∙ c.lanes.invariant.all_put k d

pub returns-in-Err-clause-fails : goal.returns-in-Err-clause-fails
returns-in-Err-clause-fails g c =
    fails_at c.args.links.now.items c.lanes.links.items c.poll_at.new.links.items c.args.queues.now.items c.lanes.queues.items c.poll_at.new.queues.items c.args.cut c.lanes.i c.lanes.found c.lanes.answers.items c.in-Err.bad
    c.lanes.invariant c.in-Err.ensures.changes (omega (arith, c.lanes-test.true, c.len-i-end.ensures)) c.in-Err.ensures.fails
