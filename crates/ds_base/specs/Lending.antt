-- What a list lends for writing.
use Rattle.std.specs.Prelude.{ℕ, slice_set}
use Rattle.std.specs.Borrow.{Lends, Fml, RattleType, MutBor}
use Rattle.ds_base.specs.Items.{Items}
use Rattle.ds_base.specs.contracts.item_list.ItemList.{the_row}

module _ (T : RattleType) (list : MutBor (Items T.Denot)) where
  -- once the borrow r ends, place i of the list has the last value written through r
  abbrev pub LendsItem : ℕ → MutBor T.Denot → Fml
  LendsItem i r = Lends (the_row T) T list r (λ w. record list.now { items = slice_set list.now.items i w })
