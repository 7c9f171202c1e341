-- The links into the query processors so far were looked at.
use Rattle.std.proofs.Common.{◌≡◌}
use Rattle.pipeline_nodes.specs.Looks.{StandsApart, ProcessorsAreLookedAt}
use Rattle.pipeline_nodes.proofs.nodes.Nodes.look_at_processors.Given as goal

abbrev pub invariant-processors : goal.invariant-processors
invariant-processors g l = record {
  looks : ProcessorsAreLookedAt l.q l.fn.self.net l.self.net;
  stands : StandsApart l.self.net;
  lent : l.self.lent ≡ l.fn.self.lent;
}
