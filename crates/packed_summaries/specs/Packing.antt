-- Where the words of a summary's values stand in its row. A word has eight bytes.
use Rattle.std.specs.Prelude.{ℕ, ◌≡◌, ◌≤◌, ◌<◌, ◌+◌, Bool, true, false, List, [], ◌∷◌, length, map, All}
use Rattle.packed_summaries.specs.declared.packing.Column.{Column}

-- how summaries are packed: whether each variable is wide, and the variables of the key
pub record Shape : Type 0 where
  pub wide : List Bool
  pub key : List ℕ

-- how many words a value has
abbrev pub words_for : (wide : Bool) → ℕ
words_for false = 1
words_for true = 2

-- how many words the values of these variables have
abbrev pub words_in : (wide : List Bool) → ℕ
words_in [] = 0
words_in (w ∷ ws) = words_for w + words_in ws

-- how many words a row has: two for the stamp, and those of the values
abbrev pub row_len : (wide : List Bool) → ℕ
row_len wide = 2 + words_in wide

-- the columns of these variables, one behind the other, where the first begins there
abbrev pub columns_from : (start : ℕ) → (wide : List Bool) → List Column
columns_from start [] = []
columns_from start (w ∷ ws) = record { start = start; wide = w } ∷ columns_from (start + words_for w) ws

-- the columns of a row, behind its stamp
abbrev pub columns_of : (wide : List Bool) → List Column
columns_of wide = columns_from 2 wide

-- whether each of the columns is wide
abbrev pub widths : List Column → List Bool
widths columns = map (λ (c : Column). c.wide) columns

-- the columns are those of a row with so many words, and the key's variables are among them
pub record IsLaidOut (columns : List Column) (stride : ℕ) (key : List ℕ) : Type 0 where
  pub few : length columns ≤ 16
  pub placed : columns ≡ columns_of (widths columns)
  pub whole : stride ≡ row_len (widths columns)
  pub short : length key ≤ 16
  pub known : All (λ v. v < length columns) key
