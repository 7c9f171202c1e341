-- The end was not put, some link is not so far, or all are.
use Rattle.std.proofs.Common.{rules, sym, subst}
use Rattle.node_lanes.specs.Resting.{HasTakenEach, IsSettledEach, SomeToTake, SomeToSettle}
use Rattle.query_node.specs.Works.{WorkSeen}
use Rattle.query_node.proofs.Settled.{EndsBy, work_done, work_open, work_unsettled, work_untaken}
use Rattle.query_node.proofs.work.Work.done.Goals as goal

pub returns-then-not-ended-clause-not : goal.returns-then-not-ended-clause-not
returns-then-not-ended-clause-not g c is =
    work_open c.args.self.now c.ended.result c.requires (subst (λ (s : WorkSeen). EndsBy c.ended.result s.state) c.self.view_is c.ended.ensures) (search rules)

pub returns-then-not-taken_all-clause-not : goal.returns-then-not-taken_all-clause-not
returns-then-not-taken_all-clause-not g c is =
    work_untaken c.args.self.now c.requires (subst (λ (s : WorkSeen). SomeToTake s.ins) c.self.view_is (c.taken_all.ensures.not (search rules)))

pub returns-clause-done : goal.returns-clause-done
returns-clause-done g c is =
    work_done c.args.self.now c.ended.result c.requires (subst (λ (s : WorkSeen). EndsBy c.ended.result s.state) c.self.view_is c.ended.ensures) (search rules)
    (subst (λ (s : WorkSeen). HasTakenEach s.ins) c.self.view_is (c.taken_all.ensures.all (search rules)))
    (subst (λ (s : WorkSeen). IsSettledEach s.outs) c.self.view_is (c.settled.ensures.settled is))

pub returns-clause-not : goal.returns-clause-not
returns-clause-not g c is =
    work_unsettled c.args.self.now c.requires (subst (λ (s : WorkSeen). SomeToSettle s.outs) c.self.view_is (c.settled.ensures.not is))
