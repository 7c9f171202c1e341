-- One link more stands.
use Rattle.std.proofs.Common.{◌≡◌, ◌<◌, ◌≤◌, get_or, ⊎_elim, sym, subst, arith}
use Rattle.std.proofs.lemmas.Option.{get_or_from_slice_get}
use Rattle.credit_link.specs.Ends.{TxSeen, TxStands}
use Rattle.shuffle_poll.proofs.Putting.{before_or_not}
use Rattle.shuffle_poll.proofs.shuffle.show_standing.Goals as goal

pub standing-preserved : goal.standing-preserved
standing-preserved g c k d before =
    let items = c.args.links.now.items in
    let here : TxStands (get_or items c.standing.i d) =
    subst (λ (t : TxSeen). TxStands t) (sym (get_or_from_slice_get items c.standing.i c.get.result.now d c.get.ensures)) c.held.ensures.stands in
    ⊎_elim (λ (earlier : k < c.standing.i). c.standing.invariant k d earlier)
    (λ (behind : c.standing.i ≤ k).
    let e : c.standing.i ≡ k = omega (arith, behind, before) in
    subst (λ j. TxStands (get_or items j d)) e here)
    (before_or_not k c.standing.i)
