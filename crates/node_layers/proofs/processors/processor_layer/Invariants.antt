use Rattle.summary_spec.specs.Job.{declared_of}
use Rattle.node_layers.specs.Layers.{IsLayer, IsNewProcessor}
use Rattle.node_layers.proofs.Layering.{LeftFrom}
use Rattle.node_layers.proofs.processors.processor_layer.Given as goal

abbrev pub invariant-loop-q : goal.invariant-loop-q
invariant-loop-q l = record {
  layer : IsLayer l.q (IsNewProcessor (declared_of l.job) l.fn.ins.items l.fn.outs.items) l.layer.items;
  ins : LeftFrom l.q l.fn.ins.items l.ins.items;
  outs : LeftFrom l.q l.fn.outs.items l.outs.items;
}
