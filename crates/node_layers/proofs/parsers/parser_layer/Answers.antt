-- One parser more.
use Rattle.std.proofs.Common.{length, map, ◌∙◌, arith, rules}
use Rattle.node_lists.specs.Lists.{items_at}
use Rattle.summary_spec.specs.Job.{declared_of}
use Rattle.node_layers.specs.Layers.{IsNewParser}
use Rattle.node_layers.proofs.Layering.{layer_more, left_more, none_before}
use Rattle.node_layers.proofs.Newly.{own_here, parser_same}
use Rattle.node_layers.proofs.parsers.parser_layer.Goals as goal

pub parser_over-requires-clause-own : goal.parser_over-requires-clause-own
parser_over-requires-clause-own g c =
    own_here g.S.Source.seen (declared_of c.args.job.now) c.len-count.result (length c.args.outs.items) c.loop-p.p (items_at c.args.sources.now.items) c.take_list-own.result.items c.len-count.ensures
    (c.take_list-own.ensures.taken ∙ c.loop-p.invariant.sources.left c.loop-p.p (search rules)) c.requires.captures (search rules)

pub loop-p-preserved : goal.loop-p-preserved
loop-p-preserved g c = record {
  layer = layer_more c.loop-p.p (IsNewParser (declared_of c.args.job.now) (length c.args.outs.items) (λ q. map g.S.Source.seen (items_at c.args.sources.now.items q)) c.args.outs.items) c.loop-p.layer.items
      c.put_parser.new.layer.items c.in-Ok.node c.loop-p.invariant.layer c.put_parser.ensures.put
      (parser_same g.S.Source.seen (declared_of c.args.job.now) c.len-count.result (length c.args.outs.items) c.loop-p.p (items_at c.args.sources.now.items) c.take_list-own.result.items c.args.outs.items
      c.take_list-links.result.items c.in-Ok.node c.len-count.ensures
      (c.take_list-own.ensures.taken ∙ c.loop-p.invariant.sources.left c.loop-p.p (search rules)) (c.take_list-links.ensures.taken ∙ c.loop-p.invariant.outs.left c.loop-p.p (search rules))
      c.in-Ok.ensures.made c.in-Ok.ensures.stands);
  sources = left_more c.loop-p.p c.args.sources.now.items c.loop-p.sources.items c.take_list-own.new.lists.items _ c.loop-p.invariant.sources c.take_list-own.ensures.left;
  none = none_before c.loop-p.p c.loop-p.sources.items c.take_list-own.new.lists.items c.loop-p.invariant.none c.take_list-own.ensures.left;
  outs = left_more c.loop-p.p c.args.outs.items c.loop-p.outs.items c.take_list-links.new.lists.items _ c.loop-p.invariant.outs c.take_list-links.ensures.left;
  room = omega (arith, c.loop-p.invariant.room, c.put_parser.ensures.spare);
}
