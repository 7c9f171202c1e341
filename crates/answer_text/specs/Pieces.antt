-- What the lines are made of.
use Rattle.std.specs.Prelude.{ℕ, List, [], ◌∷◌, ◌++◌, get_or, codes}
use Rattle.std.specs.Fmt.{decimal}
use Rattle.std.specs.List.{flat_map}
use Rattle.ds_base.specs.Items.{Items}

-- a number after its label
abbrev pub labelled : List ℕ → ℕ → List ℕ
labelled label n = label ++ decimal n

-- a text after others
abbrev pub behind : List ℕ → List ℕ
behind text = codes "," ++ text

-- texts with commas between them
abbrev pub joined : List (List ℕ) → List ℕ
joined [] = []
joined (text ∷ texts) = text ++ flat_map behind texts

-- no name, for a number that has none
abbrev pub no_name : Items ℕ
no_name = record { items = []; spare = 0 }

-- the name with this number
abbrev pub name_of : List (Items ℕ) → ℕ → List ℕ
name_of names number = (get_or names number no_name).items
