-- One parser more is closed.
use Rattle.std.proofs.Common.{ℕ, subst, arith}
use Rattle.node_lists.specs.Lists.{SetsAt}
use Rattle.node_layers.proofs.Closing.{one_closed}
use Rattle.node_layers.proofs.parsers.close_parsers.Goals as goal

pub loop-node-preserved : goal.loop-node-preserved
loop-node-preserved g c = record {
  closes = one_closed g.S.Source.seen c.args.layer.now.items c.args.sources.now.items c.loop-node.sources.items c.put_list.new.lists.items c.loop-node.layer.items c.pop.new.self.items c.in-Some.node
      c.close-own.result.0.items c.loop-node.invariant.closes c.in-Some.ensures.taken c.close-own.ensures.sources
      (subst (λ (n : ℕ). SetsAt c.loop-node.sources.items c.put_list.new.lists.items n c.close-own.result.0.items) c.len.ensures c.put_list.ensures);
  spare = omega (arith, c.loop-node.invariant.spare, c.in-Some.ensures.spare);
}
