-- Some link is not so far, or all are.
use Rattle.std.proofs.Common.{rules, inl, inr, subst}
use Rattle.node_lanes.specs.Resting.{HasTakenEach, IsSettledEach, SomeToTake, SomeToSettle}
use Rattle.grouper_node.specs.Works.{WorkSeen}
use Rattle.grouper_node.proofs.work.Work.rest.Goals as goal

pub returns-then-not-taken_all : goal.returns-then-not-taken_all
returns-then-not-taken_all g c = inl (subst (λ (s : WorkSeen). SomeToTake s.ins) c.self.view_is (c.taken_all.ensures.not (search rules)))

pub returns-then-not-settled : goal.returns-then-not-settled
returns-then-not-settled g c = inr (subst (λ (s : WorkSeen). SomeToSettle s.outs) c.self.view_is (c.settled.ensures.not (search rules)))

pub returns : goal.returns
returns g c = (
  subst (λ (s : WorkSeen). HasTakenEach s.ins) c.self.view_is (c.taken_all.ensures.all (search rules)),
  subst (λ (s : WorkSeen). IsSettledEach s.outs) c.self.view_is (c.settled.ensures.settled (search rules)),
)
