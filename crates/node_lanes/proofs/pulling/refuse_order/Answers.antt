-- The place of the frame that was pulled last.
use Rattle.std.proofs.Common.{◌≡◌, ℕ, sym, ap, ◌∙◌, subst, length, ◌<◌}
use Rattle.std.proofs.lemmas.Option.{get_or_from_slice_get}
use Rattle.credit_link.specs.declared.link_bad.LinkBad.TheVariants.{Order}
use Rattle.credit_link.specs.declared.turn.NodeFault.TheVariants.{Link}
use Rattle.credit_link.specs.Ends.{RxSeen}
use Rattle.node_lanes.specs.Ends.{given_on}
use Rattle.node_lanes.proofs.Pumped.{given_at}
use Rattle.node_lanes.proofs.pulling.refuse_order.Goals as goal

pub last_at-requires : goal.last_at-requires
last_at-requires g c =
    let rx = c.get.result.now in
    let here : given_on c.args.ins.now.items c.args.j ≡ rx.given =
    given_at c.args.ins.now.items c.args.j rx c.requires.0 ∙ ap (λ (r : RxSeen). r.given) (get_or_from_slice_get c.args.ins.now.items c.args.j rx rx c.get.ensures) in
    subst (λ fs. 0 < length fs) here c.requires.1

pub returns : goal.returns
returns g c frames frame whole =
    let rx = c.get.result.now in
    let here : given_on c.args.ins.now.items c.args.j ≡ rx.given =
    given_at c.args.ins.now.items c.args.j rx c.requires.0 ∙ ap (λ (r : RxSeen). r.given) (get_or_from_slice_get c.args.ins.now.items c.args.j rx rx c.get.ensures) in
    ap (λ (n : ℕ). Link c.args.j (Order n)) (c.last_at.ensures.last ∙ c.last_at.ensures.stands.receiver.last frames frame (sym here ∙ whole))
