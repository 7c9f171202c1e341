use Rattle.std.proofs.Common.{ℕ, ◌+◌, ◌<◌, ◌≤◌, ◌≡◌, [], length, map}
use Rattle.node_lists.specs.Lists.{items_at}
use Rattle.summary_spec.specs.Job.{declared_of}
use Rattle.node_layers.specs.Layers.{IsLayer, IsNewParser}
use Rattle.node_layers.proofs.Layering.{LeftFrom}
use Rattle.node_layers.proofs.parsers.parser_layer.Given as goal

abbrev pub invariant-loop-p : goal.invariant-loop-p
invariant-loop-p g l = record {
  layer : IsLayer l.p (IsNewParser (declared_of l.job) (length l.fn.outs.items) (λ q. map g.S.Source.seen (items_at l.fn.sources.items q)) l.fn.outs.items) l.layer.items;
  sources : LeftFrom l.p l.fn.sources.items l.sources.items;
  none : (q : ℕ) → q < l.p → items_at l.sources.items q ≡ [];
  outs : LeftFrom l.p l.fn.outs.items l.outs.items;
  room : length l.fn.outs.items ≤ l.layer.spare + l.p;
}
