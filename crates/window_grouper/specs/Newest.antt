-- For each key its newest group.
use Rattle.std.specs.Prelude.{ℕ, List, Option, Some, ◌≡◌, ◌≢◌}
use Rattle.std.specs.BTreeMap.{get}
use Rattle.std.specs.declared.cmp.Ordering.{Ordering}
use Rattle.ds_base.specs.contracts.nums.NumsOrd.TheImpl as nums_order
use Rattle.window_grouper.specs.declared.newest.Begun.{Begun}
use Rattle.window_grouper.specs.declared.newest.Newest.{Newest}

-- the order of keys: the shorter first, and of one length by the first number that differs
abbrev pub key_cmp : List ℕ → List ℕ → Ordering
key_cmp = (nums_order.ghosts).cmp

-- the newest group with the key, if there is a group with it
abbrev pub newest_of : Newest → List ℕ → Option Begun
newest_of newest key = get key_cmp newest.groups key

-- every key has the newest group that it had
abbrev pub AreKept : Newest → Newest → Type 0
AreKept old new = (key : List ℕ) → newest_of new key ≡ newest_of old key

-- this is the newest group with the key now, and every other key has the one that it had
pub record Puts (old new : Newest) (key : List ℕ) (group : Begun) : Type 0 where
  pub here : newest_of new key ≡ Some group
  pub others : (other : List ℕ) → other ≢ key → newest_of new other ≡ newest_of old other

-- the newest group with the key is gone if it has this number, and all else is as it was
pub record Forgets (old new : Newest) (key : List ℕ) (number : ℕ) : Type 0 where
  pub stays : (group : Begun) → newest_of old key ≡ Some group → group.number ≢ number → newest_of new key ≡ Some group
  pub gone : (group : Begun) → newest_of new key ≡ Some group → (newest_of old key ≡ Some group) × (group.number ≢ number)
  pub others : (other : List ℕ) → other ≢ key → newest_of new other ≡ newest_of old other
