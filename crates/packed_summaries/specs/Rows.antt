-- A summary as the words of its row, and what the words of a row say. The key is not among them, since it is
-- values of variables.
use Rattle.std.specs.Prelude.{ℕ, ◌≡◌, ◌<◌, ◌+◌, ◌*◌, ◌/◌, ◌%◌, ◌^◌, Bool, true, false, List, [], ◌∷◌, ◌++◌, zero, suc, get_or, map, take, drop}
use Rattle.ds_base.specs.Keys.{key_of}
use Rattle.ds_base.specs.declared.stamp.Stamp.{Stamp}
use Rattle.ds_base.specs.declared.summary.Summary.{Summary}
use Rattle.packed_summaries.specs.declared.packing.Column.{Column}
use Rattle.packed_summaries.specs.Packing.{Shape, columns_of}

-- ---- the words of a summary

-- the words of a value: a wide one has two, of which the first is the lower
abbrev pub value_words : (wide : Bool) → (n : ℕ) → List ℕ
value_words false n = n ∷ []
value_words true n = n % 2 ^ 64 ∷ n / 2 ^ 64 ∷ []

-- the words of the values of these variables
abbrev pub values_words : (wide : List Bool) → (vals : List ℕ) → List ℕ
values_words [] ns = []
values_words (w ∷ ws) [] = []
values_words (w ∷ ws) (n ∷ ns) = value_words w n ++ values_words ws ns

-- where a record was captured, as one word
abbrev pub place_word : Stamp → ℕ
place_word at = at.capture * 2 ^ 40 + at.number

-- the row of a summary
abbrev pub row_of : Shape → Summary → List ℕ
row_of shape s = s.at.time ∷ place_word s.at ∷ values_words shape.wide s.vals

-- the value goes into its words
abbrev pub HasWidth : (wide : Bool) → (n : ℕ) → Type 0
HasWidth false n = n < 2 ^ 64
HasWidth true n = Unit {0}

-- there is a value for each of the variables, and each goes into its words
abbrev pub HaveWidths : (wide : List Bool) → (vals : List ℕ) → Type 0
HaveWidths [] [] = Unit {0}
HaveWidths [] (n ∷ ns) = ⊥
HaveWidths (w ∷ ws) [] = ⊥
HaveWidths (w ∷ ws) (n ∷ ns) = HasWidth w n × HaveWidths ws ns

-- a row can hold the summary
pub record Fits (shape : Shape) (s : Summary) : Type 0 where
  pub capture : s.at.capture < 2 ^ 24
  pub number : s.at.number < 2 ^ 40
  pub values : HaveWidths shape.wide s.vals
  pub key : s.key ≡ key_of shape.key s.vals

-- ---- what a row says

-- word i of a row, and 0 where it has none
abbrev pub word : (row : List ℕ) → (i : ℕ) → ℕ
word row i = get_or row i 0

-- the stamp
abbrev pub stamp_in : (row : List ℕ) → Stamp
stamp_in row = record { time = word row 0; capture = word row 1 / 2 ^ 40; number = word row 1 % 2 ^ 40 }

-- the value that begins with word i
abbrev pub value_by : (wide : Bool) → (row : List ℕ) → (i : ℕ) → ℕ
value_by false row i = word row i
value_by true row i = word row (i + 1) * 2 ^ 64 + word row i

-- the value in a column
abbrev pub value_in : (row : List ℕ) → Column → ℕ
value_in row column = value_by column.wide row column.start

-- the values of all variables
abbrev pub values_in : (wide : List Bool) → (row : List ℕ) → List ℕ
values_in wide row = map (value_in row) (columns_of wide)

-- the summary
abbrev pub summary_in : Shape → (row : List ℕ) → Summary
summary_in shape row = record {
  at = stamp_in row;
  key = key_of shape.key (values_in shape.wide row);
  vals = values_in shape.wide row;
}

-- ---- row behind row

-- the first so many rows of some words, each of `stride` words
abbrev pub rows : (stride count : ℕ) → (words : List ℕ) → List (List ℕ)
rows stride zero words = []
rows stride (suc count) words = take stride words ∷ rows stride count (drop stride words)
