-- One link more is new too.
use Rattle.std.proofs.Common.{◌∷◌, sym, subst}
use Rattle.std.specs.List.{All}
use Rattle.std.proofs.lemmas.List.Elements.{All-push}
use Rattle.net_law.specs.Starts.{IsNewTx}
use Rattle.net_law.proofs.Starts.{new_links_start}
use Rattle.node_runs.proofs.links.add_out.Goals as goal

pub returns : goal.returns
returns c =
    subst (All (IsNewTx 2)) (sym c.in-Ok.ensures.pushed)
    (All-push (IsNewTx 2) c.args.outs.now.items c.in_ok-tx.tx c.requires (new_links_start 2 c.in_ok-tx.tx c.in_ok-tx.rx c.in_ok-tx.ensures.fresh c.in_ok-tx.ensures.stands.1).sending)
