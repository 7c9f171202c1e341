use Rattle.std.proofs.Common.{◌≡◌, ◌≢◌, ℕ, ◌-◌, ◌/◌, ◌^◌, Bool, true, false, List, Some, length, All, Any, bit_and, refl, sym, ap, ◌∙◌, subst, arith, slice_get, get_or}
use Rattle.std.specs.List.{list_any}
use Rattle.std.specs.Int.{bit_at}
use Rattle.std.proofs.lemmas.Nat.{bit_set_by_shift}
use Rattle.std.proofs.lemmas.Nat.Bits.{shr_and_one}
use Rattle.std.proofs.lemmas.Bool.{false≢true}
use Rattle.std.proofs.lemmas.Bool.Decides.{nat_tests}
use Rattle.std.proofs.lemmas.List.Folds.{Any-from_list_any, list_any_at}
use Rattle.std.proofs.lemmas.List.Folds.{list_any-from_Any}
use Rattle.ds_base.specs.declared.summary.Summary.{Summary}
use Rattle.ds_base.specs.declared.verdict.Verdict.{Verdict}
use Rattle.ds_base.specs.declared.verdict.Verdict.TheVariants.{Fine, Dropped}
use Rattle.path_judges.specs.Members.{capture_of}
use Rattle.path_judges.specs.Drop.{IsOfExit, is_of_exit, IsDropVerdict, drop_verdict}

-- the code's test of a bit
pub is_of_exit-true : (exits : ℕ) (member : Summary) → bit_and (exits / 2 ^ capture_of member) 1 ≡ 1 → is_of_exit exits member ≡ true
is_of_exit-true exits member h = let e : bit_at exits (capture_of member) ≡ 1 = sym (shr_and_one exits (capture_of member)) ∙ h in grind (arith, nat_tests)

pub is_of_exit-false : (exits : ℕ) (member : Summary) → (bit_and (exits / 2 ^ capture_of member) 1 ≡ 1 → ⊥) → is_of_exit exits member ≡ false
is_of_exit-false exits member h =
    let n : bit_at exits (capture_of member) ≢ 1 = λ e. h (shr_and_one exits (capture_of member) ∙ e) in grind (arith, nat_tests)

-- the test says whether the bit is set
pub IsOfExit-from_test : (exits : ℕ) (member : Summary) → is_of_exit exits member ≡ true → IsOfExit exits member
IsOfExit-from_test exits member t =
    let e : bit_at exits (capture_of member) ≡ 1 = grind (arith, nat_tests) in
    (bit_set_by_shift exits (capture_of member)).0 (shr_and_one exits (capture_of member) ∙ e)

pub test-from_IsOfExit : (exits : ℕ) (member : Summary) → IsOfExit exits member → is_of_exit exits member ≡ true
test-from_IsOfExit exits member h = is_of_exit-true exits member ((bit_set_by_shift exits (capture_of member)).1 h)

pub Any-of_exit : (exits : ℕ) (members : List Summary) → list_any (is_of_exit exits) members ≡ true → Any (IsOfExit exits) members
Any-of_exit exits members t =
    let any = Any-from_list_any (is_of_exit exits) members t in
    (any.0, any.1, any.2, any.3, IsOfExit-from_test exits any.1 any.4)

pub All-no_exit : (exits : ℕ) (members : List Summary) → list_any (is_of_exit exits) members ≡ false → All (λ member. ¬ IsOfExit exits member) members
All-no_exit exits members f k d within is =
    false≢true (sym f ∙ list_any_at (is_of_exit exits) members k d within (test-from_IsOfExit exits (get_or members k d) is))

not_true : (b : Bool) → (b ≡ true → ⊥) → b ≡ false
not_true true h = absurd (h refl)
not_true false h = refl

list_any-of_exit : (exits : ℕ) (members : List Summary) → Any (IsOfExit exits) members → list_any (is_of_exit exits) members ≡ true
list_any-of_exit exits members any =
    list_any-from_Any (is_of_exit exits) members (any.0, any.1, any.2, any.3, test-from_IsOfExit exits any.1 any.4)

list_any-no_exit : (exits : ℕ) (members : List Summary) → All (λ member. ¬ IsOfExit exits member) members → list_any (is_of_exit exits) members ≡ false
list_any-no_exit exits members none =
    let some : list_any (is_of_exit exits) members ≡ true → ⊥ = λ t. let any = Any-of_exit exits members t in
    none any.0 any.1 any.2 (subst (IsOfExit exits) (sym any.3) any.4) in
    not_true (list_any (is_of_exit exits) members) some

pub drop_verdict-fine : (exits : ℕ) (members : List Summary) → list_any (is_of_exit exits) members ≡ true → drop_verdict exits members ≡ Fine
drop_verdict-fine exits members e = rw e

pub drop_verdict-dropped : (exits : ℕ) (members : List Summary) (last : Summary) → list_any (is_of_exit exits) members ≡ false → slice_get members (length members - 1) ≡ Some last → drop_verdict exits members ≡ Dropped (capture_of last)
drop_verdict-dropped exits members last e at_end = rw (e, at_end)

-- exactly one verdict meets the definition
pub drop_only : (exits : ℕ) (members : List Summary) (verdict : Verdict) → IsDropVerdict exits members verdict → verdict ≡ drop_verdict exits members
drop_only exits members Fine any = sym (drop_verdict-fine exits members (list_any-of_exit exits members any))
drop_only exits members (Dropped capture) seen =
    ap (λ c. Dropped c) seen.capture_is
    ∙ sym (drop_verdict-dropped exits members seen.last (list_any-no_exit exits members seen.no_exit) seen.is_last)
drop_only exits members _ h = elim h [ ]
