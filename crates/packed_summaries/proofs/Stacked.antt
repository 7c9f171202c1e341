-- Rows that lie one behind the other.
use Rattle.std.proofs.Common.{ℕ, List, [], ◌∷◌, ◌++◌, ◌≡◌, ◌<◌, ◌≤◌, ◌+◌, ◌*◌, ◌∙◌, zero, suc, refl, ap, sym, subst, arith, length, take, drop}
use Rattle.std.specs.Prelude.{Some, slice_get}
use Rattle.std.proofs.Math.Nat.{suc-mul}
use Rattle.std.proofs.lemmas.List.{drop-drop, take_all, take-append-le, drop-append-le, length-drop, nil_from_length}
use Rattle.std.proofs.lemmas.Nat.{mul-le}
use Rattle.packed_summaries.specs.Rows.{rows}

pub count_rows : (stride count : ℕ) (words : List ℕ) → length (rows stride count words) ≡ count
count_rows stride zero words = refl
count_rows stride (suc count) words = ap suc (count_rows stride count (drop stride words))

-- row i begins behind the words of the rows before it
pub row_there : (stride count : ℕ) (words : List ℕ) (i : ℕ) → i < count
    → slice_get (rows stride count words) i ≡ Some (take stride (drop (i * stride) words))
row_there stride zero words i within = absurd (omega arith)
row_there stride (suc count) words zero within =
    let first : 0 ≡ 0 * stride = omega arith in ap (λ (n : ℕ). Some (take stride (drop n words))) first
row_there stride (suc count) words (suc i) within =
    let behind : stride + i * stride ≡ suc i * stride = omega (arith, suc-mul i stride) in
    row_there stride count (drop stride words) i (omega arith)
    ∙ ap (λ (xs : List ℕ). Some (take stride xs)) (drop-drop (i * stride) stride words ∙ ap (λ (n : ℕ). drop n words) behind)

-- one row more, behind the others
pub rows_more : (stride count : ℕ) (words row : List ℕ) → length words ≡ count * stride → length row ≡ stride
    → rows stride (suc count) (words ++ row) ≡ rows stride count words ++ row ∷ []
rows_more stride zero words row whole one =
    let none : words ≡ [] = nil_from_length words (omega (arith, whole)) in
    subst (λ (xs : List ℕ). take stride (xs ++ row) ∷ [] ≡ row ∷ []) (sym none)
    (ap (λ (xs : List ℕ). xs ∷ []) (take_all stride row (omega arith)))
rows_more stride (suc count) words row whole one =
    let long : length words ≡ count * stride + stride = omega (arith, suc-mul count stride) in
    let enough : stride ≤ length words = omega arith in
    let rest : length (drop stride words) ≡ count * stride = omega (arith, length-drop stride words) in
    ap (λ (xs : List ℕ). xs ∷ rows stride (suc count) (drop stride (words ++ row))) (take-append-le stride words row enough)
    ∙ ap (λ (xs : List ℕ). take stride words ∷ rows stride (suc count) xs) (drop-append-le stride words row enough)
    ∙ ap (λ (xss : List (List ℕ)). take stride words ∷ xss) (rows_more stride count (drop stride words) row rest one)

-- there are at most half as many rows as words, where a row has two words or more
pub few_rows : (stride count n : ℕ) → 2 ≤ stride → n ≡ count * stride → count + count ≤ n
few_rows stride count n wide whole = omega (arith, mul-le count 2 count stride (omega arith) wide)
