-- The links into the groupers so far were looked at.
use Rattle.std.proofs.Common.{◌≡◌}
use Rattle.pipeline_nodes.specs.Looks.{StandsApart, GroupersAreLookedAt}
use Rattle.pipeline_nodes.proofs.nodes.Nodes.look_at_groupers.Given as goal

abbrev pub invariant-groupers : goal.invariant-groupers
invariant-groupers g l = record {
  looks : GroupersAreLookedAt l.g l.fn.self.net l.self.net;
  stands : StandsApart l.self.net;
  lent : l.self.lent ≡ l.fn.self.lent;
}
