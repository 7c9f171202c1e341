-- The rounds so far.
use Rattle.node_bundles.specs.Going.{Each, Went}
use Rattle.node_bundles.specs.Bundles.{AnyWent}
use Rattle.node_bundles.proofs.bundle.run_bundle.Given as goal

abbrev pub invariant-rounds : goal.invariant-rounds
invariant-rounds g l = record {
  nodes : Each (AnyWent g.row.S.Denot) l.fn.nodes.items l.nodes.items;
  last : Went g.row.L.Denot g.L.TakesTurn.Stands g.L.TakesTurn.Goes g.L.TakesTurn.Meets g.L.TakesTurn.fault g.L.TakesTurn.Tells g.L.TakesTurn.shown l.fn.last l.last;
}
