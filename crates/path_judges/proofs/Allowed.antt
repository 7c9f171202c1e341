use Rattle.std.proofs.Common.{◌≡◌, ℕ, zero, suc, ◌+◌, ◌<◌, ◌≤◌, max, Bool, true, false, List, [], ◌∷◌, ◌++◌, length, get_or, take, refl, sym, ap, ◌∙◌, arith, cond, slice_get, Some, ◌⊎◌, inl, inr}
use Rattle.std.specs.List.{list_any}
use Rattle.std.proofs.lemmas.List.Folds.{Any-from_list_any, list_any-from_Any}
use Rattle.std.proofs.lemmas.Bool.{false≢true, cases_lt}
use Rattle.ds_base.proofs.Places.{take_at}
use Rattle.ds_base.specs.declared.verdict.Verdict.{Verdict}
use Rattle.ds_base.specs.declared.verdict.Verdict.TheVariants.{Fine, Path}
use Rattle.path_judges.specs.declared.pattern.Step.{Step}
use Rattle.path_judges.specs.Pattern.{matches, begun}
use Rattle.path_judges.specs.Path.{IsAllowed, LeavesAt, IsPathVerdict, most_begun, path_verdict}
use Rattle.path_judges.proofs.Places.{list_any-here, list_any-next}
use Rattle.path_judges.proofs.Walks.{Matches-from_test, test-from_Matches, Begins-from_begun, begun-from_Begins, begun-le}

IsAllowed-from_test : (patterns : List (List Step)) (walk : List ℕ) → list_any (λ steps. matches steps walk) patterns ≡ true → IsAllowed patterns walk
IsAllowed-from_test patterns walk t =
    let any = Any-from_list_any (λ (steps : List Step). matches steps walk) patterns t in
    (any.0, any.1, any.2, any.3, Matches-from_test any.1 walk any.4)

test-from_IsAllowed : (patterns : List (List Step)) (walk : List ℕ) → IsAllowed patterns walk → list_any (λ steps. matches steps walk) patterns ≡ true
test-from_IsAllowed patterns walk any =
    list_any-from_Any (λ (steps : List Step). matches steps walk) patterns (any.0, any.1, any.2, any.3, test-from_Matches any.1 walk any.4)

-- the most is at least each pattern's count
most_begun-at : (patterns : List (List Step)) (walk : List ℕ) (k : ℕ) (steps : List Step) → k < length patterns → get_or patterns k steps ≡ steps → begun steps walk ≤ most_begun patterns walk
most_begun-at [] walk k steps lt at = absurd (omega arith)
most_begun-at (front ∷ patterns) walk zero steps lt at =
    let e : begun front walk ≡ begun steps walk = ap (λ ss. begun ss walk) at in omega arith
most_begun-at (front ∷ patterns) walk (suc k) steps lt at =
    let later = most_begun-at patterns walk k steps (omega arith) at in omega arith

-- and is one pattern's count
record Reached (patterns : List (List Step)) (walk : List ℕ) : Type 0 where
  place : ℕ
  steps : List Step
  within : place < length patterns
  at_place : get_or patterns place steps ≡ steps
  most : begun steps walk ≡ most_begun patterns walk

most_begun-front : (front : List Step) (patterns : List (List Step)) (walk : List ℕ) → most_begun patterns walk ≤ begun front walk → Reached (front ∷ patterns) walk
most_begun-front front patterns walk le = record { place = 0; steps = front; within = omega arith; at_place = refl; most = omega arith }

most_begun-later : (front : List Step) (patterns : List (List Step)) (walk : List ℕ) → begun front walk < most_begun patterns walk → Reached patterns walk → Reached (front ∷ patterns) walk
most_begun-later front patterns walk lt r =
    record { place = suc r.place; steps = r.steps; within = (let w = r.within in omega arith); at_place = r.at_place; most = (let m = r.most in omega arith) }

most_begun-reached : (front : List Step) (patterns : List (List Step)) (walk : List ℕ) → Reached (front ∷ patterns) walk
most_begun-reached front [] walk = most_begun-front front [] walk (omega arith)
most_begun-reached front (next ∷ patterns) walk =
    let c : (begun front walk < most_begun (next ∷ patterns) walk) ⊎ (most_begun (next ∷ patterns) walk ≤ begun front walk) = cases_lt (begun front walk) (most_begun (next ∷ patterns) walk) in
    elim c [
      | inl lt ↦ most_begun-later front (next ∷ patterns) walk lt (most_begun-reached next patterns walk)
      | inr le ↦ most_begun-front front (next ∷ patterns) walk le
    ]

LeavesAt-most : (front : List Step) (patterns : List (List Step)) (walk : List ℕ) → list_any (λ steps. matches steps walk) (front ∷ patterns) ≡ false → LeavesAt (front ∷ patterns) walk (most_begun (front ∷ patterns) walk)
LeavesAt-most front patterns walk none =
    let r = most_begun-reached front patterns walk in
    record {
      not_allowed = λ allowed. false≢true (sym none ∙ test-from_IsAllowed (front ∷ patterns) walk allowed);
      within = (let le = begun-le r.steps walk in let m = r.most in omega arith);
      begins = (r.place, r.steps, r.within, r.at_place, Begins-from_begun r.steps walk (most_begun (front ∷ patterns) walk) (let m = r.most in omega arith));
      greatest = λ m le b.
          let at = most_begun-at (front ∷ patterns) walk b.0 b.1 b.2 b.3 in
          let up_to = begun-from_Begins b.1 walk m le b.4 in
          omega arith;
    }

path_value : (b : Bool) (patterns : List (List Step)) (walk : List ℕ) → list_any (λ steps. matches steps walk) patterns ≡ b → 0 < length patterns → IsPathVerdict patterns walk (cond b Fine (Path (most_begun patterns walk)))
path_value true patterns walk e some = IsAllowed-from_test patterns walk e
path_value false [] walk e some = absurd (omega arith)
path_value false (front ∷ patterns) walk e some = LeavesAt-most front patterns walk e

pub path_verdict-is : (patterns : List (List Step)) (walk : List ℕ) → 0 < length patterns → IsPathVerdict patterns walk (path_verdict patterns walk)
path_verdict-is patterns walk some = path_value (list_any (λ steps. matches steps walk) patterns) patterns walk refl some

-- exactly one verdict meets the definition
same_verdict : (patterns : List (List Step)) (walk : List ℕ) (v w : Verdict) → IsPathVerdict patterns walk v → IsPathVerdict patterns walk w → v ≡ w
same_verdict patterns walk Fine Fine a b = refl
same_verdict patterns walk Fine (Path n) a b = absurd (b.not_allowed a)
same_verdict patterns walk (Path m) Fine a b = absurd (a.not_allowed b)
same_verdict patterns walk (Path m) (Path n) a b =
    let same : m ≡ n = omega (arith, a.greatest n b.within b.begins, b.greatest m a.within a.begins) in
    ap (λ k. Path k) same
same_verdict patterns walk Fine _ a b = elim b [ ]
same_verdict patterns walk (Path m) _ a b = elim b [ ]
same_verdict patterns walk _ w a b = elim a [ ]

pub path_only : (patterns : List (List Step)) (walk : List ℕ) → 0 < length patterns → (other : Verdict) → IsPathVerdict patterns walk other → other ≡ path_verdict patterns walk
path_only patterns walk some other h = same_verdict patterns walk other (path_verdict patterns walk) h (path_verdict-is patterns walk some)

-- the first patterns were tried: none matches, and this is the most that they begin
pub record Tried (patterns : List (List Step)) (walk : List ℕ) (i at : ℕ) : Type 0 where
  pub none_matches : list_any (λ steps. matches steps walk) (take i patterns) ≡ false
  pub most : at ≡ most_begun (take i patterns) walk

most_begun-push : (patterns : List (List Step)) (walk : List ℕ) (steps : List Step) → most_begun (patterns ++ steps ∷ []) walk ≡ max (most_begun patterns walk) (begun steps walk)
most_begun-push [] walk steps = omega arith
most_begun-push (front ∷ patterns) walk steps = let m = most_begun-push patterns walk steps in omega arith

pub Tried-next : (patterns : List (List Step)) (walk : List ℕ) (i at : ℕ) (steps : List Step) → Tried patterns walk i at → slice_get patterns i ≡ Some steps → matches steps walk ≡ false → Tried patterns walk (i + 1) (max at (begun steps walk))
Tried-next patterns walk i at steps t here fails = record {
  none_matches = list_any-next (λ (ss : List Step). matches ss walk) patterns i steps here t.none_matches fails;
  most = ap (λ n. max n (begun steps walk)) t.most ∙ sym (most_begun-push (take i patterns) walk steps) ∙ ap (λ ps. most_begun ps walk) (sym (take_at patterns i steps here));
}

pub Tried-fine : (patterns : List (List Step)) (walk : List ℕ) (i : ℕ) (steps : List Step) → slice_get patterns i ≡ Some steps → matches steps walk ≡ true → Fine ≡ path_verdict patterns walk
Tried-fine patterns walk i steps here passes =
    ap (λ b. cond b Fine (Path (most_begun patterns walk))) (sym (list_any-here (λ (ss : List Step). matches ss walk) patterns i steps here passes))

take-whole : {X : Type 0} (xs : List X) (i : ℕ) → length xs ≤ i → take i xs ≡ xs
take-whole [] zero le = refl
take-whole [] (suc i) le = refl
take-whole (x ∷ xs) zero le = absurd (omega arith)
take-whole (x ∷ xs) (suc i) le = ap (λ ys. x ∷ ys) (take-whole xs i (omega arith))

pub Tried-end : (patterns : List (List Step)) (walk : List ℕ) (i at : ℕ) → Tried patterns walk i at → length patterns ≤ i → Path at ≡ path_verdict patterns walk
Tried-end patterns walk i at t le =
    let whole = take-whole patterns i le in
    let none : list_any (λ steps. matches steps walk) patterns ≡ false = ap (list_any (λ (steps : List Step). matches steps walk)) (sym whole) ∙ t.none_matches in
    ap (λ n. Path n) (t.most ∙ ap (λ ps. most_begun ps walk) whole)
    ∙ ap (λ b. cond b Fine (Path (most_begun patterns walk))) (sym none)
