-- One grouper more.
use Rattle.std.proofs.Common.{length, rules}
use Rattle.summary_spec.specs.Job.{declared_of}
use Rattle.node_layers.specs.Layers.{IsNewGrouper}
use Rattle.node_layers.proofs.Layering.{layer_more, left_more}
use Rattle.node_layers.proofs.Newly.{grouper_same}
use Rattle.node_layers.proofs.groupers.grouper_layer.Goals as goal

pub loop-g-preserved : goal.loop-g-preserved
loop-g-preserved c = record {
  layer = layer_more c.loop-g.g (IsNewGrouper (declared_of c.args.job.now) (length c.args.ins.items) c.args.ins.items c.args.outs.items) c.loop-g.layer.items c.push.new.self.items c.in_ok-node.node
      c.loop-g.invariant.layer c.in-Ok.ensures.pushed
      (grouper_same (declared_of c.args.job.now) _ (length c.args.ins.items) c.loop-g.ins.items c.args.ins.items c.loop-g.outs.items c.args.outs.items c.loop-g.g c.in_ok-node.node c.len-count.ensures
      (c.loop-g.invariant.ins.left c.loop-g.g (search rules)) (c.loop-g.invariant.outs.left c.loop-g.g (search rules)) c.in_ok-node.ensures.made);
  ins = left_more c.loop-g.g c.args.ins.items c.loop-g.ins.items c.grouper_at.new.ins.items _ c.loop-g.invariant.ins c.in_ok-node.ensures.ins_left;
  outs = left_more c.loop-g.g c.args.outs.items c.loop-g.outs.items c.grouper_at.new.outs.items _ c.loop-g.invariant.outs c.in_ok-node.ensures.outs_left;
}
