-- One link more has taken all, or has not.
use Rattle.std.proofs.Common.{rules, ◌≡◌, ◌<◌, ◌≤◌, get_or, ⊎_elim, sym, subst, arith}
use Rattle.std.proofs.lemmas.Option.{get_or_from_slice_get}
use Rattle.credit_link.specs.Ends.{RxSeen}
use Rattle.round_law.specs.Links.{HasTakenAll}
use Rattle.round_law.specs.Views.{receiver_view}
use Rattle.node_lanes.proofs.Listed.{before_or_not}
use Rattle.node_lanes.proofs.receiving.taken_all.Goals as goal

pub links-preserved : goal.links-preserved
links-preserved g c j d before =
    let items = c.args.ins.now.items in
    let here : HasTakenAll (receiver_view (get_or items c.links.j d)) =
    subst (λ (r : RxSeen). HasTakenAll (receiver_view r)) (sym (get_or_from_slice_get items c.links.j c.get.result.now d c.get.ensures)) (c.has_taken_all.ensures.all (search rules)) in
    ⊎_elim (λ (earlier : j < c.links.j). c.links.invariant j d earlier)
    (λ (behind : c.links.j ≤ j).
    let e : c.links.j ≡ j = omega (arith, behind, before) in
    subst (λ k. HasTakenAll (receiver_view (get_or items k d))) e here)
    (before_or_not j c.links.j)

pub returns-clause-all : goal.returns-clause-all
returns-clause-all g c all j d there = c.links.invariant j d (omega (arith, there, c.links-test.false, c.len-j-end.ensures))
