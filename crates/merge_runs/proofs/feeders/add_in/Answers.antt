-- One link more is new too.
use Rattle.std.proofs.Common.{◌∷◌, sym, subst}
use Rattle.std.specs.List.{All}
use Rattle.std.proofs.lemmas.List.Elements.{All-push}
use Rattle.net_law.specs.Starts.{IsNewRx}
use Rattle.net_law.proofs.Starts.{new_links_start}
use Rattle.merge_runs.proofs.feeders.add_in.Goals as goal

pub returns : goal.returns
returns c =
    subst (All (IsNewRx 2)) (sym c.in-Ok.ensures.pushed)
    (All-push (IsNewRx 2) c.args.ins.now.items c.in_ok-tx.rx c.requires (new_links_start 2 c.in_ok-tx.tx c.in_ok-tx.rx c.in_ok-tx.ensures.fresh c.in_ok-tx.ensures.stands.1).receiving)
