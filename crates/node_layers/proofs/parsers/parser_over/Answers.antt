-- A new shuffle over new links.
use Rattle.std.proofs.Common.{List, map, ap, ◌∙◌}
use Rattle.summary_spec.specs.Job.{declared_of}
use Rattle.credit_link.specs.Ends.{TxSeen}
use Rattle.net_law.specs.Ends.{tx_at}
use Rattle.net_law.specs.Starts.{new_parser}
use Rattle.node_layers.proofs.Newly.{are_new_outs, is_new_outs, same_links}
use Rattle.node_layers.proofs.parsers.parser_over.Goals as goal

pub new-requires-2-clause-outs : goal.new-requires-2-clause-outs
new-requires-2-clause-outs g c = (
  is_new_outs c.in-Ok.out c.args.links.items c.in-Ok.ensures.fresh,
  ((tx_at c.args.links.items 0).credits, are_new_outs (tx_at c.args.links.items 0).credits c.in-Ok.out c.args.links.items c.in-Ok.ensures.fresh c.in-Ok.ensures.holds c.requires.links.new_outs),
)

pub returns-in-Ok-new-clause-made : goal.returns-in-Ok-new-clause-made
returns-in-Ok-new-clause-made g c =
    c.in-Ok-new.ensures.made (tx_at c.args.links.items 0).credits
    (are_new_outs (tx_at c.args.links.items 0).credits c.in-Ok.out c.args.links.items c.in-Ok.ensures.fresh c.in-Ok.ensures.holds c.requires.links.new_outs)
    ∙ ap (λ (links : List TxSeen). new_parser (declared_of c.args.job.now) c.args.me c.args.parsers (tx_at c.args.links.items 0).credits (map g.S.Source.seen c.args.sources.items) links)
    (same_links c.in-Ok.out c.args.links.items c.in-Ok.ensures.fresh)
