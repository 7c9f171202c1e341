use Rattle.std.proofs.Common.{ℕ, ◌≡◌, ◌≤◌, ◌-◌, suc, Some, length, arith, refl, subst, sym}
use Rattle.std.specs.Prelude.{slice_get}
use Rattle.std.proofs.lemmas.Grind.{common_steps}
use Rattle.ds_base.specs.Order.{Precedes}
use Rattle.window_grouper.proofs.Sorted.{within_neighbours, neighbours_from_ordered}
use Rattle.window_grouper.proofs.order.is_in_stamp_order.Goals as goal

pub returns-then-ge : goal.returns-then-ge
returns-then-ge c = (
  λ never. absurd (cc),
  λ ordered.
      let up : suc (c.loop-i.i - 1) ≡ c.loop-i.i = omega arith in
      let here : Precedes c.get.result.now.at c.get-in-loop-i.result.now.at =
      neighbours_from_ordered c.args.list.now.items (c.loop-i.i - 1) c.get.result.now c.get-in-loop-i.result.now ordered c.get.ensures
      (subst (λ (n : ℕ). slice_get c.args.list.now.items n ≡ Some c.get-in-loop-i.result.now) (sym up) c.get-in-loop-i.ensures) in
      absurd (grind (arith, common_steps, here)),
)

pub returns : goal.returns
returns c =
    let long : length c.args.list.now.items ≤ c.loop-i.i = omega arith in
    (λ _. within_neighbours c.args.list.now.items c.loop-i.i long c.loop-i.invariant, λ _. refl)
