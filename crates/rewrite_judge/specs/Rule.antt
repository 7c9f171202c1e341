-- Which values keep a rule.
use Rattle.std.specs.Prelude.{ℕ, ◌≡◌, ◌+◌, ◌==◌, Bool, false, IsSomeAnd, slice_index}
use Rattle.std.specs.List.{find}
use Rattle.std.specs.Option.{option_map_or}
use Rattle.ds_base.specs.declared.summary.Summary.{Summary}
use Rattle.rewrite_judge.specs.declared.rule.Rule.{Rule}
use Rattle.rewrite_judge.specs.declared.rule.How.{How}
use Rattle.rewrite_judge.specs.declared.rule.How.TheVariants.{Same, Less, Table}

-- how two values are to be: equal; the first the second plus an amount; or the first row whose left
-- number is the first value has the second value on the right
abbrev pub Agree : How → ℕ → ℕ → Type 0
Agree Same first second = first ≡ second
Agree (Less by) first second = first ≡ second + by
Agree (Table rows) first second = IsSomeAnd (find (λ row. row.0 == first) rows.items) (λ row. row.1 ≡ second)

-- the two members keep the rule with their values of its variable
abbrev pub Keeps : Rule → Summary × Summary → Type 0
Keeps rule pair = Agree rule.how (slice_index pair.0.vals rule.var) (slice_index pair.1.vals rule.var)

-- the same, as tests
abbrev pub agree : How → ℕ → ℕ → Bool
agree Same first second = first == second
agree (Less by) first second = first == second + by
agree (Table rows) first second = option_map_or (λ row. row.1 == second) (find (λ row. row.0 == first) rows.items) false

abbrev pub keeps : Rule → Summary × Summary → Bool
keeps rule pair = agree rule.how (slice_index pair.0.vals rule.var) (slice_index pair.1.vals rule.var)
