-- Some link is not so far.
use Rattle.std.proofs.Common.{subst}
use Rattle.node_lanes.specs.Resting.{SomeToTake}
use Rattle.result_merge.specs.Works.{WorkSeen}
use Rattle.result_merge.proofs.work.Work.has_taken_all.Goals as goal

pub returns-clause-not : goal.returns-clause-not
returns-clause-not g c false_ = subst (λ (s : WorkSeen). SomeToTake s.ins) c.self.view_is (c.taken_all.ensures.not false_)
