-- Lists that are seen through a function, from a place on.
use Rattle.std.proofs.Common.{◌≡◌, ℕ, zero, suc, ◌+◌, ◌<◌, List, [], ◌∷◌, ◌++◌, All, length, drop, refl, sym, ap, ◌∙◌, get_or, arith, Err}
use Rattle.job_values.specs.Said.{fault_at}
use Rattle.job_values.specs.declared.member.Member.TheVariants.{QueryRulesRows}
use Rattle.job_values.specs.declared.fault.JobWhat.TheVariants.{WrongKind}
use Rattle.job_table.specs.QueryTable.{both, pair}
use Rattle.std.proofs.lemmas.List.{at_drop_more}
use Rattle.std.proofs.lemmas.List.Elements.{All-append}
use Rattle.serde_json.specs.Data.{item}
use Rattle.serde_json.specs.View.{view, items_view}
use Rattle.serde_json.specs.declared.value.Value.{Value}
use Rattle.job_values.specs.Values.{items_length}

pub element_at : (vs : List Value) (i : ℕ) (v : Value) → i < length vs → v ≡ get_or vs i v → items_view (drop i vs) ≡ item (view v) (items_view (drop (i + 1) vs))
element_at vs i v less e = ap items_view (at_drop_more (λ l. l) vs i v less ∙ ap (λ y. y ∷ drop (i + 1) vs) (sym e))

pub length_shown : (vs : List Value) → items_length (items_view vs) ≡ length vs
length_shown [] = refl
length_shown (v ∷ vs) = omega (arith, length_shown vs)

pub not_two : (i : ℕ) (vs : List Value) → (length vs ≡ 2 → ⊥) → both i (items_view vs) ≡ Err (fault_at QueryRulesRows i WrongKind)
not_two i [] other = refl
not_two i (a ∷ []) other = refl
not_two i (a ∷ b ∷ []) other = absurd (other (omega arith))
not_two i (a ∷ b ∷ c ∷ vs) other = refl

pub two_items : (i : ℕ) (vs : List Value) (a b : Value) → length vs ≡ 2 → a ≡ get_or vs 0 a → b ≡ get_or vs 1 b → both i (items_view vs) ≡ pair i (view a) (view b)
two_items i [] a b two left right = absurd (omega (arith, two))
two_items i (x ∷ []) a b two left right = absurd (omega (arith, two))
two_items i (x ∷ y ∷ []) a b two left right = rw (left, right) refl
two_items i (x ∷ y ∷ z ∷ vs) a b two left right = absurd (omega (arith, two))

-- a number that is not 0 is positive
pub positive : (n : ℕ) → (n ≡ 0 → ⊥) → 0 < n
positive zero h = absurd (h refl)
positive (suc n) h = omega arith

-- what holds of each item and of one more holds of the list with it at its end
pub all_more : {X : Type 0} (P : X → Type 0) (xs : List X) (x : X) → All P xs → P x → All P (xs ++ x ∷ [])
all_more P xs x all one = All-append P xs (x ∷ []) all single
  where
    single : All P (x ∷ [])
    single zero d less = one
    single (suc k) d less = absurd (omega (arith, less))
