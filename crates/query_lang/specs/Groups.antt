-- The meaning of an expression over a group.
use Rattle.std.specs.Prelude.{ℕ, ◌+◌, ◌-◌, Bool, List, [], ◌∷◌, length, map, min, max, fold, find, count_by, Option, Some, None, ◌==◌, if◌then◌else◌, slice_get, slice_index, option_map, option_and_then}
use Rattle.std.specs.List.{list_any}
use Rattle.ds_base.specs.declared.summary.Summary.{Summary}
use Rattle.query_lang.specs.declared.expression.Term.{Term}
use Rattle.query_lang.specs.declared.expression.Term.TheVariants.{Count, Span, Seen, First, Last, Min, Max, Distinct, At}
use Rattle.query_lang.specs.Expression.{Expression}
use Rattle.query_lang.specs.Meaning.{meaning}

-- a summary's value of a variable
abbrev pub value_in : ℕ → Summary → ℕ
value_in v s = slice_index s.vals v

-- the members' values of a variable
abbrev pub values : ℕ → List Summary → List ℕ
values v ms = map (value_in v) ms

-- a member is of this capture
abbrev pub is_of : ℕ → Summary → Bool
is_of c m = m.at.capture == c

-- the last
abbrev pub final : {X : Type 0} → List X → Option X
final xs = slice_get xs (length xs - 1)

abbrev pub least : List ℕ → Option ℕ
least [] = None
least (x ∷ xs) = Some (fold min x xs)

abbrev pub greatest : List ℕ → Option ℕ
greatest [] = None
greatest (x ∷ xs) = Some (fold max x xs)

-- how many different numbers there are: each counts where it stands last
abbrev pub different : List ℕ → ℕ
different [] = 0
different (x ∷ xs) = (if list_any (λ y. y == x) xs then 0 else 1) + different xs

-- the last member's time minus the first's
abbrev pub span : List Summary → Option ℕ
span ms = option_and_then (λ a. option_map (λ b. b.at.time - a.at.time) (final ms)) (slice_get ms 0)

-- what a term reads of a group's members; the terms of summaries read nothing
abbrev pub read_of_members : List Summary → Term → Option ℕ
read_of_members ms Count = Some (length ms)
read_of_members ms Span = span ms
read_of_members ms (Seen c) = Some (count_by (is_of c) ms)
read_of_members ms (First v) = slice_get (values v ms) 0
read_of_members ms (Last v) = final (values v ms)
read_of_members ms (Min v) = least (values v ms)
read_of_members ms (Max v) = greatest (values v ms)
read_of_members ms (Distinct v) = Some (different (values v ms))
read_of_members ms (At c v) = option_map (value_in v) (find (is_of c) ms)
read_of_members ms _ = None

-- the meaning of an expression over a group
abbrev pub meaning_group : Expression → List Summary → Option ℕ
meaning_group e ms = meaning (read_of_members ms) e
