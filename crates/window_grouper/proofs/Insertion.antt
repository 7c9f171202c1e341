-- A list whose stamps differ has one list in stamp order, which insertion computes.
use Rattle.std.proofs.Common.{ℕ, Bool, true, false, cond, List, [], ◌∷◌, ◌++◌, ◌≡◌, ◌<◌, ◌⊎◌, refl, sym, ap, subst, ◌∙◌, arith, ⊎_elim, inl, inr, length, get_or}
use Rattle.std.specs.List.{Contains}
use Rattle.std.specs.List.Sorted.{IsPermutation}
use Rattle.std.proofs.lemmas.Bool.{cases_Bool}
use Rattle.std.proofs.lemmas.List.{append-nil}
use Rattle.std.proofs.lemmas.List.Elements.{Contains-append_right, Contains-append_cases}
use Rattle.std.proofs.lemmas.List.Sorted.{IsPermutation-refl, IsPermutation-cons, IsPermutation-sym, IsPermutation-trans, IsPermutation-middle, Contains-permutation, length_permutation}
use Rattle.ds_base.specs.Order.{Precedes, PrecedesAll, InStampOrder}
use Rattle.ds_base.specs.declared.stamp.Stamp.{Stamp}
use Rattle.ds_base.specs.declared.summary.Summary.{Summary}
use Rattle.window_grouper.specs.Sorted.{DiffersFromAll, StampsDiffer, is_before, insert_by_stamp, by_stamp, IsInStampOrderOf, OneOrder}
use Rattle.window_grouper.proofs.Stamps.{precedes_trans, not_both_ways, before_true, before_false}

-- ---- the order of a list

pub precedes_all-trans : (a b : Stamp) (ss : List Summary) → Precedes a b → PrecedesAll b ss → PrecedesAll a ss
precedes_all-trans a b [] h k = tt
precedes_all-trans a b (s ∷ ss) h k = (precedes_trans a b s.at h k.0, precedes_all-trans a b ss h k.1)

in_order-front : (s t : Summary) (ss : List Summary) → Precedes s.at t.at → InStampOrder (t ∷ ss) → InStampOrder (s ∷ t ∷ ss)
in_order-front s t ss h k = ((h, precedes_all-trans s.at t.at ss h k.0), k)

-- ---- stamps that differ

-- what holds with s in front of x, and with s behind it, holds where insertion puts s
placed_by : (P : List Summary → Type 0) (s x : Summary) (xs : List Summary) → Precedes s.at x.at ⊎ Precedes x.at s.at
    → (Precedes s.at x.at → P (s ∷ x ∷ xs)) → (Precedes x.at s.at → P (x ∷ insert_by_stamp s xs)) → P (insert_by_stamp s (x ∷ xs))
placed_by P s x xs apart front behind =
    ⊎_elim
    (λ (h : Precedes s.at x.at). subst (λ (b : Bool). P (cond b (s ∷ x ∷ xs) (x ∷ insert_by_stamp s xs))) (sym (before_true s.at x.at h)) (front h))
    (λ (h : Precedes x.at s.at). subst (λ (b : Bool). P (cond b (s ∷ x ∷ xs) (x ∷ insert_by_stamp s xs))) (sym (before_false s.at x.at h)) (behind h))
    apart

precedes_all-insert : (at : Stamp) (s : Summary) (ss : List Summary) → DiffersFromAll s.at ss → Precedes at s.at → PrecedesAll at ss
    → PrecedesAll at (insert_by_stamp s ss)
precedes_all-insert at s [] d h k = (h, tt)
precedes_all-insert at s (x ∷ xs) d h k =
    placed_by (PrecedesAll at) s x xs d.0 (λ (f : Precedes s.at x.at). (h, k))
    (λ (b : Precedes x.at s.at). (k.0, precedes_all-insert at s xs d.1 h k.1))

differs-insert : (at : Stamp) (s : Summary) (ss : List Summary) → DiffersFromAll s.at ss → Precedes at s.at ⊎ Precedes s.at at
    → DiffersFromAll at ss → DiffersFromAll at (insert_by_stamp s ss)
differs-insert at s [] d h k = (h, tt)
differs-insert at s (x ∷ xs) d h k =
    placed_by (DiffersFromAll at) s x xs d.0 (λ (f : Precedes s.at x.at). (h, k))
    (λ (b : Precedes x.at s.at). (k.0, differs-insert at s xs d.1 h k.1))

-- a stamp differs from the sorted list as it does from the list
pub differs-by_stamp : (at : Stamp) (l : List Summary) → StampsDiffer l → DiffersFromAll at l → DiffersFromAll at (by_stamp l)
differs-by_stamp at [] d h = tt
differs-by_stamp at (s ∷ ss) d h =
    differs-insert at s (by_stamp ss) (differs-by_stamp s.at ss d.1 d.0) h.0 (differs-by_stamp at ss d.1 h.1)

-- ---- what insertion gives

pub in_order-insert : (s : Summary) (ss : List Summary) → DiffersFromAll s.at ss → InStampOrder ss → InStampOrder (insert_by_stamp s ss)
in_order-insert s [] d h = (tt, tt)
in_order-insert s (x ∷ xs) d h =
    placed_by InStampOrder s x xs d.0 (λ (f : Precedes s.at x.at). in_order-front s x xs f h)
    (λ (b : Precedes x.at s.at). (precedes_all-insert x.at s xs d.1 b h.0, in_order-insert s xs d.1 h.1))

pub in_order-by_stamp : (l : List Summary) → StampsDiffer l → InStampOrder (by_stamp l)
in_order-by_stamp [] d = tt
in_order-by_stamp (s ∷ ss) d = in_order-insert s (by_stamp ss) (differs-by_stamp s.at ss d.1 d.0) (in_order-by_stamp ss d.1)

insert_front : (s : Summary) (ss : List Summary) → PrecedesAll s.at ss → insert_by_stamp s ss ≡ s ∷ ss
insert_front s [] h = refl
insert_front s (x ∷ xs) h = ap (λ (b : Bool). cond b (s ∷ x ∷ xs) (x ∷ insert_by_stamp s xs)) (before_true s.at x.at h.0)

-- a list in order stays as it is
pub by_stamp-in_order : (l : List Summary) → InStampOrder l → by_stamp l ≡ l
by_stamp-in_order [] h = refl
by_stamp-in_order (s ∷ ss) h = ap (insert_by_stamp s) (by_stamp-in_order ss h.1) ∙ insert_front s ss h.0

pub same-insert : (s : Summary) (ss : List Summary) → IsPermutation (s ∷ ss) (insert_by_stamp s ss)
same-insert s [] = IsPermutation-refl (s ∷ [])
same-insert s (x ∷ xs) =
    ⊎_elim
    (λ (h : is_before s.at x.at ≡ true). subst (λ (b : Bool). IsPermutation (s ∷ x ∷ xs) (cond b (s ∷ x ∷ xs) (x ∷ insert_by_stamp s xs))) (sym h)
    (IsPermutation-refl (s ∷ x ∷ xs)))
    (λ (h : is_before s.at x.at ≡ false). subst (λ (b : Bool). IsPermutation (s ∷ x ∷ xs) (cond b (s ∷ x ∷ xs) (x ∷ insert_by_stamp s xs))) (sym h)
    (IsPermutation-trans (s ∷ x ∷ xs) (x ∷ s ∷ xs) (x ∷ insert_by_stamp s xs)
    (IsPermutation-middle (s ∷ []) x xs)
    (IsPermutation-cons x (s ∷ xs) (insert_by_stamp s xs) (same-insert s xs))))
    (cases_Bool (is_before s.at x.at))

pub same-by_stamp : (l : List Summary) → IsPermutation l (by_stamp l)
same-by_stamp [] = IsPermutation-refl []
same-by_stamp (s ∷ ss) =
    IsPermutation-trans (s ∷ ss) (s ∷ by_stamp ss) (insert_by_stamp s (by_stamp ss))
    (IsPermutation-cons s ss (by_stamp ss) (same-by_stamp ss)) (same-insert s (by_stamp ss))

-- each summary of the list is once in the sorted one
pub length-by_stamp : (l : List Summary) → length (by_stamp l) ≡ length l
length-by_stamp l = length_permutation l (by_stamp l) (same-by_stamp l)

-- ---- no other list in order has the same summaries

contains_cases : (s z : Summary) (ss : List Summary) → Contains (s ∷ ss) z → (z ≡ s) ⊎ Contains ss z
contains_cases s z ss h =
    ⊎_elim
    (λ (one : Contains (s ∷ []) z).
    let first : one.0 ≡ 0 = omega (arith, one.1) in
    let at_first : get_or (s ∷ []) 0 z ≡ z = subst (λ (k : ℕ). get_or (s ∷ []) k z ≡ z) first one.2 in
    inl (sym at_first))
    (λ (more : Contains ss z). inr more)
    (Contains-append_cases (s ∷ []) ss z h)

contains_first : (s : Summary) (ss : List Summary) → Contains (s ∷ ss) s
contains_first s ss = let within : 0 < length (s ∷ ss) = omega arith in (0, within, refl)

contains_later : (s z : Summary) (ss : List Summary) → Contains ss z → Contains (s ∷ ss) z
contains_later s z ss h = Contains-append_right (s ∷ []) ss z h

precedes_contained : (at : Stamp) (z : Summary) (ss : List Summary) → PrecedesAll at ss → Contains ss z → Precedes at z.at
precedes_contained at z [] h c = absurd (omega (arith, c.1))
precedes_contained at z (s ∷ ss) h c =
    ⊎_elim
    (λ (e : z ≡ s). subst (λ (x : Summary). Precedes at x.at) (sym e) h.0)
    (λ (more : Contains ss z). precedes_contained at z ss h.1 more)
    (contains_cases s z ss c)

-- each summary of the one list is in the other
abbrev Within : List Summary → List Summary → Type 0
Within xs ys = (z : Summary) → Contains xs z → Contains ys z

same_first : (s t : Summary) (ss ts : List Summary) → InStampOrder (s ∷ ss) → InStampOrder (t ∷ ts) → Within (s ∷ ss) (t ∷ ts)
    → Within (t ∷ ts) (s ∷ ss) → s ≡ t
same_first s t ss ts hs ht there back =
    ⊎_elim
    (λ (e : s ≡ t). e)
    (λ (later : Contains ts s).
    ⊎_elim
    (λ (e : t ≡ s). sym e)
    (λ (earlier : Contains ss t).
    absurd (not_both_ways s.at t.at (precedes_contained s.at t ss hs.0 earlier) (precedes_contained t.at s ts ht.0 later)))
    (contains_cases s t ss (back t (contains_first t ts))))
    (contains_cases t s ts (there s (contains_first s ss)))

within_rest : (s : Summary) (ss ts : List Summary) → InStampOrder (s ∷ ss) → Within (s ∷ ss) (s ∷ ts) → Within ss ts
within_rest s ss ts hs there z c =
    ⊎_elim
    (λ (e : z ≡ s).
    let itself : Precedes s.at s.at = precedes_contained s.at s ss hs.0 (subst (Contains ss) e c) in
    absurd (not_both_ways s.at s.at itself itself))
    (λ (more : Contains ts z). more)
    (contains_cases s z ts (there z (contains_later s z ss c)))

same_list : (xs ys : List Summary) → InStampOrder xs → InStampOrder ys → Within xs ys → Within ys xs → xs ≡ ys
same_list [] [] hx hy there back = refl
same_list [] (y ∷ ys) hx hy there back = absurd (let none = back y (contains_first y ys) in omega (arith, none.1))
same_list (x ∷ xs) [] hx hy there back = absurd (let none = there x (contains_first x xs) in omega (arith, none.1))
same_list (x ∷ xs) (y ∷ ys) hx hy there back =
    let first : x ≡ y = same_first x y xs ys hx hy there back in
    let hy' : InStampOrder (x ∷ ys) = subst (λ (s : Summary). InStampOrder (s ∷ ys)) (sym first) hy in
    let there' : Within (x ∷ xs) (x ∷ ys) = subst (λ (s : Summary). Within (x ∷ xs) (s ∷ ys)) (sym first) there in
    let back' : Within (x ∷ ys) (x ∷ xs) = subst (λ (s : Summary). Within (s ∷ ys) (x ∷ xs)) (sym first) back in
    let rest : xs ≡ ys = same_list xs ys hx.1 hy.1 (within_rest x xs ys hx there') (within_rest x ys xs hy' back') in
    cc

within_permutation : (xs ys : List Summary) → IsPermutation xs ys → Within xs ys
within_permutation xs ys h z c = Contains-permutation xs ys z h c

pub order_is_unique : (l xs ys : List Summary) → IsInStampOrderOf l xs → IsInStampOrderOf l ys → xs ≡ ys
order_is_unique l xs ys hx hy =
    let across : IsPermutation xs ys = IsPermutation-trans xs l ys (IsPermutation-sym l xs hx.same) hy.same in
    same_list xs ys hx.ordered hy.ordered (within_permutation xs ys across) (within_permutation ys xs (IsPermutation-sym xs ys across))

pub one_order : (l : List Summary) → OneOrder l
one_order l d =
    let own : IsInStampOrderOf l (by_stamp l) = record { ordered = in_order-by_stamp l d; same = same-by_stamp l } in
    (own, λ sorted h. order_is_unique l sorted (by_stamp l) h own)

-- ---- one summary more

differs-append : (at : Stamp) (l : List Summary) (s : Summary) → DiffersFromAll at (l ++ s ∷ [])
    → DiffersFromAll at l × (Precedes at s.at ⊎ Precedes s.at at)
differs-append at [] s h = (tt, h.0)
differs-append at (x ∷ l) s h = let rest = differs-append at l s h.1 in ((h.0, rest.0), rest.1)

other_way : (a b : Stamp) → Precedes a b ⊎ Precedes b a → Precedes b a ⊎ Precedes a b
other_way a b h = ⊎_elim (λ (l : Precedes a b). inr l) (λ (r : Precedes b a). inl r) h

-- of a list whose stamps differ, the last stamp differs from all before it, which differ
pub differ-parts : (l : List Summary) (s : Summary) → StampsDiffer (l ++ s ∷ []) → StampsDiffer l × DiffersFromAll s.at l
differ-parts [] s h = (tt, tt)
differ-parts (x ∷ l) s h =
    let first = differs-append x.at l s h.0 in
    let rest = differ-parts l s h.1 in
    ((first.0, rest.0), (other_way x.at s.at first.1, rest.1))

permutation-push : (l : List Summary) (s : Summary) → IsPermutation (l ++ s ∷ []) (s ∷ l)
permutation-push l s = subst (λ (k : List Summary). IsPermutation (l ++ s ∷ []) (s ∷ k)) (append-nil l) (IsPermutation-middle l s [])

-- the last summary of a list is put where its stamp has it
pub by_stamp-push : (l : List Summary) (s : Summary) → StampsDiffer (l ++ s ∷ []) → by_stamp (l ++ s ∷ []) ≡ insert_by_stamp s (by_stamp l)
by_stamp-push l s h =
    let parts = differ-parts l s h in
    let own : IsInStampOrderOf (l ++ s ∷ []) (insert_by_stamp s (by_stamp l)) = record {
      ordered = in_order-insert s (by_stamp l) (differs-by_stamp s.at l parts.0 parts.1) (in_order-by_stamp l parts.0);
      same = IsPermutation-trans (l ++ s ∷ []) (s ∷ l) (insert_by_stamp s (by_stamp l)) (permutation-push l s)
          (IsPermutation-trans (s ∷ l) (s ∷ by_stamp l) (insert_by_stamp s (by_stamp l))
          (IsPermutation-cons s l (by_stamp l) (same-by_stamp l)) (same-insert s (by_stamp l)));
    } in
    sym ((one_order (l ++ s ∷ []) h).1 (insert_by_stamp s (by_stamp l)) own)
