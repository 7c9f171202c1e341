-- The rows of a profile: one for a pair of captures.
use Rattle.std.specs.Prelude.{ℕ, zero, suc, nat_lt, if◌then◌else◌, ◌≡◌, ◌+◌, ◌*◌, ◌^◌, ◌<◌, ◌≤◌, ◌⊎◌, ◌==◌, ◌&&◌, Bool, List, [], ◌∷◌, Option, Some, None, min, max, length, sum, count_by, All, Contains, slice_index}
use Rattle.std.specs.List.{find}
use Rattle.std.specs.Option.{option_map_or}
use Rattle.ds_base.specs.Times.{hour}
use Rattle.ds_base.specs.declared.profile_row.ProfileRow.{ProfileRow}

-- k is the least number with the time below 2^k
pub record IsClass (time k : ℕ) : Type 0 where
  pub below : time < 2 ^ k
  pub least : (j : ℕ) → time < 2 ^ j → k ≤ j

-- the first of so many numbers from k on, or else the one after them, with the time below its power of 2
unfoldable pub class_from : (most k time : ℕ) → ℕ
class_from zero k time = k
class_from (suc most) k time = if nat_lt time (2 ^ k) then k else class_from most (suc k) time

-- the class of a time below 2^64: the least k with the time below 2^k
unfoldable pub class_of : ℕ → ℕ
class_of time = class_from 64 0 time

-- the row tells of these times
pub record IsRowOf (times : List ℕ) (row : ProfileRow) : Type 0 where
  pub count_is : row.count ≡ length times
  pub sum_is : row.sum ≡ sum times
  pub least_is : Contains times row.least
  pub least_below : All (λ time. row.least ≤ time) times
  pub greatest_is : Contains times row.greatest
  pub greatest_above : All (λ time. time ≤ row.greatest) times
  pub width : length row.classes ≡ 64
  pub classes_are : (k : ℕ) → k < 64 → slice_index row.classes k ≡ count_by (λ time. class_of time == k) times

-- no row where there is no time, else the row of these times
abbrev pub TellsOf : List ℕ → Option ProfileRow → Type 0
TellsOf times None = times ≡ []
TellsOf times (Some row) = IsRowOf times row

-- what holds of each row: captures are below 64, times are at most an hour, and counts below 2^55
pub record IsSound (row : ProfileRow) : Type 0 where
  pub from_below : row.from < 64
  pub to_below : row.to < 64
  pub some : 1 ≤ row.count
  pub few : row.count < 2 ^ 55
  pub classes_sum : row.count ≡ sum row.classes
  pub greatest_within : row.greatest ≤ hour
  pub sum_within : row.sum ≤ row.count * row.greatest

-- the pair of a is before that of b
abbrev pub PairPrecedes : ProfileRow → ProfileRow → Type 0
PairPrecedes a b = (a.from < b.from) ⊎ ((a.from ≡ b.from) × (a.to < b.to))

-- the pair of each row is before that of the next
abbrev pub AreRising : List ProfileRow → Type 0
AreRising [] = Unit {0}
AreRising (a ∷ []) = Unit {0}
AreRising (a ∷ b ∷ rows) = PairPrecedes a b × AreRising (b ∷ rows)

-- whether the row is of this pair
abbrev pub is_of : ℕ → ℕ → ProfileRow → Bool
is_of from to row = (row.from == from) && (row.to == to)

-- the row of a pair
abbrev pub row_of : ℕ → ℕ → List ProfileRow → Option ProfileRow
row_of from to rows = find (is_of from to) rows

-- how many delays the rows tell of for a pair
abbrev pub count_of : ℕ → ℕ → List ProfileRow → ℕ
count_of from to rows = option_map_or (λ row. row.count) (row_of from to rows) 0

-- the sums of two lists of classes
abbrev pub added : List ℕ → List ℕ → List ℕ
added [] ys = []
added (x ∷ xs) [] = x ∷ xs
added (x ∷ xs) (y ∷ ys) = (x + y) ∷ added xs ys

-- two rows of one pair as one: the sums of counts, sums and classes, the lesser least and the greater greatest
abbrev pub joined : ProfileRow → ProfileRow → ProfileRow
joined a b = record {
  from = a.from;
  to = a.to;
  count = a.count + b.count;
  sum = a.sum + b.sum;
  least = min a.least b.least;
  greatest = max a.greatest b.greatest;
  classes = added a.classes b.classes;
}

-- the same where there may be no row
abbrev pub joined_if_any : Option ProfileRow → Option ProfileRow → Option ProfileRow
joined_if_any None b = b
joined_if_any (Some a) None = Some a
joined_if_any (Some a) (Some b) = Some (joined a b)

-- these rows are those of both lists, joined pair by pair
pub record AreJoined (a b rows : List ProfileRow) : Type 0 where
  pub rising : AreRising rows
  pub each : (from to : ℕ) → row_of from to rows ≡ joined_if_any (row_of from to a) (row_of from to b)
