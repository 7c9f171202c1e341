-- A member of a group, by its place.
use Rattle.std.proofs.Common.{◌≡◌, ℕ, ◌+◌, ◌<◌, List, ◌∷◌, length, drop, Some, sym, ap, ◌∙◌, All, slice_get}
use Rattle.std.proofs.lemmas.Option.{slice_get-map}
use Rattle.ds_base.proofs.Places.{drop_at}
use Rattle.ds_base.specs.declared.summary.Summary.{Summary}
use Rattle.query_lang.specs.Groups.{values, value_in}
use Rattle.query_lang.specs.Expression.{Expression, Literal, Reading, Negation, Operation, AllTerms, VariableBelow, VariablesBelow}

pub value_is : (v : ℕ) (ms : List Summary) (i : ℕ) (m : Summary) (n : ℕ) → slice_get ms i ≡ Some m → n ≡ value_in v m → slice_get (values v ms) i ≡ Some n
value_is v ms i m n e f = slice_get-map (value_in v) ms i ∙ rw e (ap Some (sym f))

pub values_at : (v : ℕ) (ms : List Summary) (i : ℕ) (m : Summary) (n : ℕ) → slice_get ms i ≡ Some m → n ≡ value_in v m → drop i (values v ms) ≡ n ∷ drop (i + 1) (values v ms)
values_at v ms i m n e f = drop_at (values v ms) i n (value_is v ms i m n e f)

-- what a group is to know of each term of an expression
pub each_term : (ms : List Summary) (e : Expression) → 0 < length ms → All (λ s. VariablesBelow (length s.vals) e) ms → AllTerms (λ t. (0 < length ms) × All (λ s. VariableBelow (length s.vals) t) ms) e
each_term ms (Literal n) some all = tt
each_term ms (Reading t) some all = (some, all)
each_term ms (Negation e) some all = each_term ms e some all
each_term ms (Operation o l r) some all = (each_term ms l some (λ k d h. (all k d h).0), each_term ms r some (λ k d h. (all k d h).1))
