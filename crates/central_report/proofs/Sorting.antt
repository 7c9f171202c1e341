-- A list in the order of its stamps has the same summaries.
use Rattle.std.proofs.Common.{Bool, true, false, cond, List, [], ◌∷◌, ◌≡◌, ◌∙◌, suc, length, refl, ap}
use Rattle.std.specs.List.{All, AllByRecursion}
use Rattle.std.proofs.lemmas.List.Elements.{All-from_recursion, recursion_from_All}
use Rattle.ds_base.specs.declared.summary.Summary.{Summary}
use Rattle.window_grouper.specs.Sorted.{by_stamp, insert_by_stamp, is_before}

by_test : (P : List Summary → Type 0) (b : Bool) (xs ys : List Summary) → P xs → P ys → P (cond b xs ys)
by_test P true xs ys h k = h
by_test P false xs ys h k = k

all_insert : (P : Summary → Type 0) (s : Summary) (ss : List Summary) → P s → AllByRecursion P ss → AllByRecursion P (insert_by_stamp s ss)
all_insert P s [] h k = (h, tt)
all_insert P s (x ∷ xs) h k =
    by_test (AllByRecursion P) (is_before s.at x.at) (s ∷ x ∷ xs) (x ∷ insert_by_stamp s xs) (h, k) (k.0, all_insert P s xs h k.1)

by_recursion : (P : Summary → Type 0) (ss : List Summary) → AllByRecursion P ss → AllByRecursion P (by_stamp ss)
by_recursion P [] h = tt
by_recursion P (s ∷ ss) h = all_insert P s (by_stamp ss) h.0 (by_recursion P ss h.1)

pub all_sorted : (P : Summary → Type 0) (ss : List Summary) → All P ss → All P (by_stamp ss)
all_sorted P ss h = All-from_recursion P (by_stamp ss) (by_recursion P ss (recursion_from_All P ss h))

length-insert : (s : Summary) (ss : List Summary) → length (insert_by_stamp s ss) ≡ suc (length ss)
length-insert s [] = refl
length-insert s (x ∷ xs) =
    by_test (λ ys. length ys ≡ suc (suc (length xs))) (is_before s.at x.at) (s ∷ x ∷ xs) (x ∷ insert_by_stamp s xs) refl (ap suc (length-insert s xs))

pub length-by_stamp : (ss : List Summary) → length (by_stamp ss) ≡ length ss
length-by_stamp [] = refl
length-by_stamp (s ∷ ss) = length-insert s (by_stamp ss) ∙ ap suc (length-by_stamp ss)
