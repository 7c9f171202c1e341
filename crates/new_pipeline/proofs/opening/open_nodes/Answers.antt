-- A new pipeline over new links.
use Rattle.std.proofs.Common.{List, All, length, map, sym, ap, subst, arith}
use Rattle.ds_base.specs.Items.{Items}
use Rattle.node_lists.specs.Lists.{items_at}
use Rattle.credit_link.specs.Ends.{TxSeen}
use Rattle.summary_spec.specs.Job.{declared_of}
use Rattle.net_law.specs.Starts.{IsNewRx}
use Rattle.node_layers.specs.Layers.{AreParserLinks}
use Rattle.new_pipeline.proofs.Linked.{merge_links, parser_links}
use Rattle.new_pipeline.proofs.Opened.{opened_new, opened_stands}
use Rattle.new_pipeline.proofs.opening.open_nodes.Goals as goal

pub new-requires-clause-new_ins : goal.new-requires-clause-new_ins
new-requires-clause-new_ins g c =
    let r = c.in-Ok.ensures in
    let all : All (IsNewRx c.args.shape.credits) c.in-Ok.layers.merge_ins.items =
    subst (All (IsNewRx c.args.shape.credits)) (sym r.ins_are) (merge_links c.args.shape.credits c.args.shape.parsers c.args.shape.groupers c.args.shape.processors r.links r.are) in
    all

pub fill-requires-clause-links : goal.fill-requires-clause-links
fill-requires-clause-links g c =
    let r = c.in-Ok.ensures in
    λ p less.
    subst (λ (l : List (Items TxSeen)). AreParserLinks c.args.shape.groupers (items_at l p)) (sym r.outs_are)
    (parser_links c.args.shape.credits c.args.shape.parsers c.args.shape.groupers c.args.shape.processors r.links r.are p (omega (arith, less, ap (λ (l : List (Items TxSeen)). length l) r.outs_are, r.are.parser_lists))
    (omega (arith, c.requires.shape.groupers.0)))

pub returns-in-Ok-fill-clause-new : goal.returns-in-Ok-fill-clause-new
returns-in-Ok-fill-clause-new g c =
    opened_new (declared_of c.args.job.now) c.args.shape c.in-Ok.layers.parser_outs.items c.in-Ok-fill.filled.parsers.items c.in-Ok.layers.groupers.items c.in-Ok.layers.processors.items c.in-Ok.layers.merge_ins.items
    c.in-Ok-new.merge.merge (g.O.Sink.seen c.args.sink.now) c.requires.shape c.in-Ok.ensures c.in-Ok-fill.ensures.made c.in-Ok-new.ensures.fresh c.in-Ok-new.ensures.stands (map g.S.Source.seen c.args.sources.items)
    c.in-Ok-fill.ensures.dealt

pub returns-in-Ok-fill-clause-stands : goal.returns-in-Ok-fill-clause-stands
returns-in-Ok-fill-clause-stands g c =
    opened_stands (declared_of c.args.job.now) c.args.shape c.in-Ok.layers.parser_outs.items c.in-Ok-fill.filled.parsers.items c.in-Ok.layers.groupers.items c.in-Ok.layers.processors.items c.in-Ok.layers.merge_ins.items
    c.in-Ok-new.merge.merge (g.O.Sink.seen c.args.sink.now) c.requires.shape c.in-Ok.ensures c.in-Ok-fill.ensures.made c.in-Ok-new.ensures.fresh c.in-Ok-new.ensures.stands
