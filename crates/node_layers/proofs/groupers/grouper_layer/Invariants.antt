use Rattle.std.proofs.Common.{length}
use Rattle.summary_spec.specs.Job.{declared_of}
use Rattle.node_layers.specs.Layers.{IsLayer, IsNewGrouper}
use Rattle.node_layers.proofs.Layering.{LeftFrom}
use Rattle.node_layers.proofs.groupers.grouper_layer.Given as goal

abbrev pub invariant-loop-g : goal.invariant-loop-g
invariant-loop-g l = record {
  layer : IsLayer l.g (IsNewGrouper (declared_of l.job) (length l.fn.ins.items) l.fn.ins.items l.fn.outs.items) l.layer.items;
  ins : LeftFrom l.g l.fn.ins.items l.ins.items;
  outs : LeftFrom l.g l.fn.outs.items l.outs.items;
}
