use Rattle.std.proofs.Common.{◌≡◌, ◌≢◌, ℕ, ◌+◌, Bool, true, false, not, Option, Some, None, refl, sym, ◌∙◌, arith, ◌==◌, IsSomeAnd, slice_index}
use Rattle.std.specs.List.{find}
use Rattle.std.specs.Option.{option_map_or}
use Rattle.std.proofs.lemmas.Bool.{false≢true}
use Rattle.std.proofs.lemmas.Bool.Decides.{nat_tests}
use Rattle.ds_base.specs.declared.summary.Summary.{Summary}
use Rattle.rewrite_judge.specs.declared.rule.Rule.{Rule}
use Rattle.rewrite_judge.specs.declared.rule.How.{How}
use Rattle.rewrite_judge.specs.declared.rule.How.TheVariants.{Same, Less, Table}
use Rattle.rewrite_judge.specs.Rule.{Agree, Keeps, agree, keeps}

-- the tests and the words
same_test : (a b : ℕ) → (a == b) ≡ true → a ≡ b
same_test a b h = grind (arith, nat_tests)

test_same : (a b : ℕ) → a ≡ b → (a == b) ≡ true
test_same a b h = grind (arith, nat_tests)

row_test : (row : Option (ℕ × ℕ)) (second : ℕ) → option_map_or (λ r. r.1 == second) row false ≡ true → IsSomeAnd row (λ r. r.1 ≡ second)
row_test None second h = absurd (false≢true h)
row_test (Some r) second h = same_test r.1 second h

test_row : (row : Option (ℕ × ℕ)) (second : ℕ) → IsSomeAnd row (λ r. r.1 ≡ second) → option_map_or (λ r. r.1 == second) row false ≡ true
test_row None second h = absurd h
test_row (Some r) second h = test_same r.1 second h

Agree-from_test : (how : How) (first second : ℕ) → agree how first second ≡ true → Agree how first second
Agree-from_test Same first second h = same_test first second h
Agree-from_test (Less by) first second h = same_test first (second + by) h
Agree-from_test (Table rows) first second h = row_test (find (λ row. row.0 == first) rows.items) second h

test-from_Agree : (how : How) (first second : ℕ) → Agree how first second → agree how first second ≡ true
test-from_Agree Same first second h = test_same first second h
test-from_Agree (Less by) first second h = test_same first (second + by) h
test-from_Agree (Table rows) first second h = test_row (find (λ row. row.0 == first) rows.items) second h

not-false : (b : Bool) → not b ≡ false → b ≡ true
not-false true h = refl
not-false false h = absurd (false≢true (sym h))

not-true : (b : Bool) → not b ≡ true → b ≡ false
not-true true h = absurd (false≢true h)
not-true false h = refl

pub Keeps-from_test : (rule : Rule) (pair : Summary × Summary) → not (keeps rule pair) ≡ false → Keeps rule pair
Keeps-from_test rule pair h = Agree-from_test rule.how (slice_index pair.0.vals rule.var) (slice_index pair.1.vals rule.var) (not-false (keeps rule pair) h)

pub breaks-from_test : (rule : Rule) (pair : Summary × Summary) → not (keeps rule pair) ≡ true → ¬ Keeps rule pair
breaks-from_test rule pair h kept =
    false≢true (sym (not-true (keeps rule pair) h) ∙ test-from_Agree rule.how (slice_index pair.0.vals rule.var) (slice_index pair.1.vals rule.var) kept)

pub test_apart : (a b : ℕ) → (a ≡ b → ⊥) → (a == b) ≡ false
test_apart a b h = let ne : a ≢ b = h in grind (arith, nat_tests)
