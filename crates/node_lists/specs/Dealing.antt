-- Items dealt out to so many lists in turn: item c goes to list c % count, where it has place c / count.
use Rattle.std.specs.Prelude.{ℕ, ◌≡◌, ◌<◌, ◌+◌, ◌*◌, ◌↔◌, List, length, slice_index_or}

-- each list has as many items as its part of so many
pub record AreCounted {X : Type 0} (count items : ℕ) (own : ℕ → List X) : Type 0 where
  pub within : (p i : ℕ) → p < count → (i < length (own p)) ↔ (p + i * count < items)

-- the item at place i of list p is item p + i * count of all
pub record AreDealt {X : Type 0} (count : ℕ) (items : List X) (own : ℕ → List X) : Type 0 where
  pub counted : AreCounted count (length items) own
  pub same : (p i : ℕ) (d : X) → p < count → i < length (own p) → slice_index_or (own p) i d ≡ slice_index_or items (p + i * count) d
