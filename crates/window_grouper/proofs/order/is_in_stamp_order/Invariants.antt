use Rattle.std.proofs.Common.{ℕ, suc, ◌<◌, ◌≡◌, Some}
use Rattle.std.specs.Prelude.{slice_get}
use Rattle.ds_base.specs.Order.{Precedes}
use Rattle.ds_base.specs.declared.summary.Summary.{Summary}
use Rattle.window_grouper.proofs.order.is_in_stamp_order.Given as goal

abbrev pub invariant-loop-i : goal.invariant-loop-i
invariant-loop-i l = (k : ℕ) (a b : Summary) → suc k < l.i → slice_get l.list.items k ≡ Some a → slice_get l.list.items (suc k) ≡ Some b
    → Precedes a.at b.at
