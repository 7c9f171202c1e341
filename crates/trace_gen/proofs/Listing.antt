-- Lists with an item for each number from 0 on.
use Rattle.std.proofs.Common.{◌≡◌, ℕ, ◌+◌, List, [], ◌∷◌, ◌++◌, map, sym, ap, ◌∙◌, arith}
use Rattle.std.proofs.lemmas.List.{map-append}
use Rattle.std.proofs.lemmas.List.FromFn.{map-range_with_len_more}
use Rattle.std.specs.List.{range_with_len}

-- one item more
pub one_listed : {A B : Type 0} (shown : A → B) (f : ℕ → B) (k : ℕ) (before after : List A) (item : A)
    → map shown before ≡ map f (range_with_len 0 k) → after ≡ before ++ item ∷ [] → shown item ≡ f k
    → map shown after ≡ map f (range_with_len 0 (k + 1))
one_listed shown f k before after item so_far put is =
    ap (map shown) put ∙ map-append shown before (item ∷ []) ∙ ap (λ t. t ++ shown item ∷ []) so_far
    ∙ ap (λ y. map f (range_with_len 0 k) ++ y ∷ []) is ∙ sym (map-range_with_len_more f 0 k k (omega arith))

-- all items
pub all_listed : {A B : Type 0} (shown : A → B) (f : ℕ → B) (k n : ℕ) (items : List A) → map shown items ≡ map f (range_with_len 0 k) → k ≡ n
    → map shown items ≡ map f (range_with_len 0 n)
all_listed shown f k n items so_far e = so_far ∙ ap (λ j. map f (range_with_len 0 j)) e

-- the same item again
pub one_repeated : {A : Type 0} (item : A) (k : ℕ) (before after : List A) → before ≡ map (λ _. item) (range_with_len 0 k)
    → after ≡ before ++ item ∷ [] → after ≡ map (λ _. item) (range_with_len 0 (k + 1))
one_repeated item k before after so_far put =
    put ∙ ap (λ t. t ++ item ∷ []) so_far ∙ sym (map-range_with_len_more (λ _. item) 0 k k (omega arith))

pub all_repeated : {A : Type 0} (item : A) (k n : ℕ) (items : List A) → items ≡ map (λ _. item) (range_with_len 0 k) → k ≡ n
    → items ≡ map (λ _. item) (range_with_len 0 n)
all_repeated item k n items so_far e = so_far ∙ ap (λ j. map (λ _. item) (range_with_len 0 j)) e
