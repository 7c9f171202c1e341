-- How a row is put into the rows of a profile.
use Rattle.std.specs.Prelude.{ℕ, ◌≡◌, ◌≤◌, ◌<◌, ◌+◌, ◌*◌, ◌^◌, ◌⊎◌, List, [], ◌∷◌, length, replicate, insert, slice_set, slice_index_or, nat_lt, nat_eq, if◌then◌else◌}
use Rattle.std.specs.List.{AllByRecursion}
use Rattle.ds_base.specs.Times.{hour}
use Rattle.ds_base.specs.declared.profile_row.ProfileRow.{ProfileRow}
use Rattle.profiles.specs.Delays.{Delay, times_between}
use Rattle.profiles.specs.Rows.{IsSound, AreRising, joined, class_of, count_of}

-- captures are below 64, so the order of these numbers is that of the pairs
abbrev pub pair_number : ProfileRow → ℕ
pair_number row = row.from * 64 + row.to

-- what a profile keeps of its rows
pub record AreKept (rows : List ProfileRow) : Type 0 where
  pub rising : AreRising rows
  pub sound : AllByRecursion IsSound rows
  pub width : AllByRecursion (λ row. length row.classes ≡ 64) rows

-- the row of one delay
abbrev pub single : Delay → ProfileRow
single d = record {
  from = d.from;
  to = d.to;
  count = 1;
  sum = d.time;
  least = d.time;
  greatest = d.time;
  classes = slice_set (replicate 64 0) (class_of d.time) 1;
}

-- the rows with one more, which is joined with that of its pair
abbrev pub put : ProfileRow → List ProfileRow → List ProfileRow
put row [] = row ∷ []
put row (x ∷ xs) = if nat_lt (pair_number row) (pair_number x) then row ∷ x ∷ xs
    else if nat_eq (pair_number x) (pair_number row) then joined x row ∷ xs
    else x ∷ put row xs

-- the rows with all of these
abbrev pub put_all : List ProfileRow → List ProfileRow → List ProfileRow
put_all [] rows = rows
put_all (row ∷ more) rows = put_all more (put row rows)

-- the rows with all of these delays
abbrev pub count_all : List Delay → List ProfileRow → List ProfileRow
count_all [] rows = rows
count_all (d ∷ ds) rows = count_all ds (put (single d) rows)

-- what a delay that is counted meets: captures below 64, and at most an hour
abbrev pub IsLawful : Delay → Type 0
IsLawful d = (d.from < 64) × (d.to < 64) × (d.time ≤ hour)

-- the delays can be counted: they are lawful, and each pair's count stays below 2^55
pub record CanCount (ds : List Delay) (rows : List ProfileRow) : Type 0 where
  pub kept : AreKept rows
  pub lawful : AllByRecursion IsLawful ds
  pub few : (from to : ℕ) → count_of from to rows + length (times_between from to ds) < 2 ^ 55

-- the rows can be joined: each pair's count stays below 2^55
pub record CanJoin (more rows : List ProfileRow) : Type 0 where
  pub kept : AreKept rows
  pub more_kept : AreKept more
  pub few : (from to : ℕ) → count_of from to rows + count_of from to more < 2 ^ 55

-- in a list with this length and capacity there is room for n more rows, or for one of each pair
abbrev pub HasRoom : ℕ → ℕ → ℕ → Type 0
HasRoom len capacity n = (len + n ≤ capacity) ⊎ (4096 ≤ capacity)

-- a row with this number is joined with the one at i
abbrev pub PutsAt : ℕ → List ProfileRow → ℕ → Type 0
PutsAt number rows i = (i < length rows)
    × ((row d : ProfileRow) → pair_number row ≡ number → put row rows ≡ slice_set rows i (joined (slice_index_or rows i d) row))

-- a row with this number goes to i as it is
abbrev pub InsertsAt : ℕ → List ProfileRow → ℕ → Type 0
InsertsAt number rows i = (i ≤ length rows)
    × ((row : ProfileRow) → pair_number row ≡ number → put row rows ≡ insert rows i row)
