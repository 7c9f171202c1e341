-- One processor more.
use Rattle.std.proofs.Common.{rules}
use Rattle.summary_spec.specs.Job.{declared_of}
use Rattle.node_layers.specs.Layers.{IsNewProcessor}
use Rattle.node_layers.proofs.Layering.{layer_more, left_more}
use Rattle.node_layers.proofs.Newly.{processor_same}
use Rattle.node_layers.proofs.processors.processor_layer.Goals as goal

pub loop-q-preserved : goal.loop-q-preserved
loop-q-preserved c = record {
  layer = layer_more c.loop-q.q (IsNewProcessor (declared_of c.args.job.now) c.args.ins.items c.args.outs.items) c.loop-q.layer.items c.push.new.self.items c.in_ok-node.node
      c.loop-q.invariant.layer c.in-Ok.ensures.pushed
      (processor_same (declared_of c.args.job.now) c.loop-q.ins.items c.args.ins.items c.loop-q.outs.items c.args.outs.items c.loop-q.q c.in_ok-node.node
      (c.loop-q.invariant.ins.left c.loop-q.q (search rules)) (c.loop-q.invariant.outs.left c.loop-q.q (search rules)) c.in_ok-node.ensures.made);
  ins = left_more c.loop-q.q c.args.ins.items c.loop-q.ins.items c.processor_at.new.ins.items _ c.loop-q.invariant.ins c.in_ok-node.ensures.ins_left;
  outs = left_more c.loop-q.q c.args.outs.items c.loop-q.outs.items c.processor_at.new.outs.items _ c.loop-q.invariant.outs c.in_ok-node.ensures.outs_left;
}
