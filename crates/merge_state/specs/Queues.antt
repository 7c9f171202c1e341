-- Answers in the order of their firsts' stamps, each in a box.
use Rattle.std.specs.Prelude.{List, [], ◌∷◌, ◌≡◌, if◌then◌else◌}
use Rattle.std.specs.Global.{Box}
use Rattle.std.specs.List.{AllByRecursion}
use Rattle.ds_base.specs.declared.stamp.Stamp.{Stamp}
use Rattle.ds_base.specs.declared.verdict.Answer.{Answer}
use Rattle.window_grouper.specs.Sorted.{is_before}

-- the answers in the boxes
abbrev pub unboxed : List (Stamp × Box Answer) → List Answer
unboxed [] = []
unboxed (e ∷ es) = e.1.value ∷ unboxed es

-- each answer stands at the stamp of its first
abbrev pub AreStamped : List (Stamp × Box Answer) → Type 0
AreStamped entries = AllByRecursion (λ e. e.0 ≡ e.1.value.first) entries

-- the answers with one more in its place, or in the place of one of equal stamp
abbrev pub put_in : Answer → List Answer → List Answer
put_in a [] = a ∷ []
put_in a (b ∷ bs) = if is_before a.first b.first then a ∷ b ∷ bs
    else if is_before b.first a.first then b ∷ put_in a bs
    else a ∷ bs
