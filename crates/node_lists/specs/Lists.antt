-- Lists of lists.
use Rattle.std.specs.Prelude.{ℕ, ◌≡◌, ◌≢◌, ◌<◌, ◌≤◌, List, [], ◌++◌, length, slice_index_or}
use Rattle.ds_base.specs.Items.{Items}

abbrev pub no_list : {X : Type 0} → Items X
no_list = record { items = []; spare = 0 }

-- the items of list i, none where there is no such list
abbrev pub items_at : {X : Type 0} → List (Items X) → ℕ → List X
items_at lists i = (slice_index_or lists i no_list).items

-- how many more items list i takes without asking for memory
abbrev pub spare_at : {X : Type 0} → List (Items X) → ℕ → ℕ
spare_at lists i = (slice_index_or lists i no_list).spare

-- so many lists without items
pub record AreEmpty {X : Type 0} (count : ℕ) (lists : List (Items X)) : Type 0 where
  pub long : length lists ≡ count
  pub none : (i : ℕ) → items_at lists i ≡ []

-- each list has room for so many items more
pub record HaveRoom {X : Type 0} (room : ℕ) (lists : List (Items X)) : Type 0 where
  pub each : (i : ℕ) → i < length lists → room ≤ spare_at lists i

-- list `at` has these items now, and no other list has changed
pub record SetsAt {X : Type 0} (before after : List (Items X)) (at : ℕ) (items : List X) : Type 0 where
  pub long : length after ≡ length before
  pub here : items_at after at ≡ items
  pub others : (i : ℕ) → i ≢ at → items_at after i ≡ items_at before i

-- these items went behind those of list `at`
abbrev pub AppendsAt : {X : Type 0} → (before after : List (Items X)) (at : ℕ) (more : List X) → Type 0
AppendsAt before after at more = SetsAt before after at (items_at before at ++ more)

-- behind the items of each list stand those of the other list with its number
pub record JoinsLists {X : Type 0} (before more after : List (Items X)) : Type 0 where
  pub long : length after ≡ length before
  pub joined : (i : ℕ) → items_at after i ≡ items_at before i ++ items_at more i
