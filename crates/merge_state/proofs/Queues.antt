-- Answers in the order of their firsts' stamps, one more, or one less.
use Rattle.std.proofs.Common.{ℕ, true, false, List, [], ◌∷◌, ◌≡◌, ◌⊎◌, ◌≤◌, ◌+◌, refl, sym, ap, subst, ◌∙◌, ⊎_elim, arith, length}
use Rattle.std.specs.Prelude.{slice_get, Some}
use Rattle.std.specs.BTreeMap.{insert_entry}
use Rattle.std.specs.Global.{Box}
use Rattle.std.specs.List.{AllByRecursion}
use Rattle.std.specs.List.Sorted.{IsPermutation}
use Rattle.std.specs.Ordering.{MatchOrdering, match_ordering}
use Rattle.std.specs.declared.cmp.Ordering.{Ordering}
use Rattle.std.specs.declared.cmp.Ordering.TheVariants.{Less, Equal, Greater}
use Rattle.std.proofs.lemmas.Bool.{cases_Bool}
use Rattle.std.proofs.lemmas.Bool.Decides.{nat_tests}
use Rattle.std.proofs.lemmas.List.Sorted.{IsPermutation-refl, IsPermutation-trans, IsPermutation-cons, IsPermutation-middle}
use Rattle.ds_base.specs.Fronts.{PrecedesEach, InOrder}
use Rattle.ds_base.specs.Order.{Precedes}
use Rattle.ds_base.specs.declared.stamp.Stamp.{Stamp}
use Rattle.ds_base.specs.declared.verdict.Answer.{Answer}
use Rattle.window_grouper.specs.Sorted.{is_before}
use Rattle.window_grouper.proofs.Stamps.{stamp_cmp, IsSame, stamps_ranked, before_true, before_false, precedes_trans}
use Rattle.merge_state.specs.Queues.{unboxed, AreStamped, put_in}

-- ---- stamps

parts_same : (t u c d n m : ℕ) → t ≡ u → c ≡ d → n ≡ m → (let s : Stamp = record { time = t; capture = c; number = n } in s) ≡ record { time = u; capture = d; number = m }
parts_same t u c d n m e f g = cc

same_stamp : (a b : Stamp) → IsSame a b → a ≡ b
same_stamp a b h = parts_same a.time b.time a.capture b.capture a.number b.number h.0 h.1.0 h.1.1

not_before : (a b : Stamp) → IsSame a b → is_before a b ≡ false
not_before a b h = grind (arith, nat_tests)

not_behind : (a b : Stamp) → IsSame a b → is_before b a ≡ false
not_behind a b h = grind (arith, nat_tests)

-- ---- the map

pub unboxed-insert : (es : List (Stamp × Box Answer)) (a : Answer) (b : Box Answer) → b.value ≡ a → AreStamped es
    → unboxed (insert_entry stamp_cmp es a.first b) ≡ put_in a (unboxed es)
unboxed-insert [] a b e h = ap (λ (x : Answer). x ∷ []) e
unboxed-insert (f ∷ fs) a b e h = by_rank (stamp_cmp a.first f.0) (stamps_ranked a.first f.0) (unboxed-insert fs a b e h.1)
  where
    by_rank : (o : Ordering) → MatchOrdering o (Precedes a.first f.0) (IsSame a.first f.0) (Precedes f.0 a.first)
        → unboxed (insert_entry stamp_cmp fs a.first b) ≡ put_in a (unboxed fs)
        → unboxed (match_ordering o ((a.first, b) ∷ f ∷ fs) ((f.0, b) ∷ fs) (f ∷ insert_entry stamp_cmp fs a.first b)) ≡ put_in a (f.1.value ∷ unboxed fs)
    by_rank Less k rest =
        let before : is_before a.first f.1.value.first ≡ true = before_true a.first f.1.value.first (subst (λ (s : Stamp). Precedes a.first s) h.0 k) in
        rw before (ap (λ (x : Answer). x ∷ f.1.value ∷ unboxed fs) e)
    by_rank Equal k rest =
        let same : IsSame a.first f.1.value.first = subst (λ (s : Stamp). IsSame a.first s) h.0 k in
        let one : is_before a.first f.1.value.first ≡ false = not_before a.first f.1.value.first same in
        let other : is_before f.1.value.first a.first ≡ false = not_behind a.first f.1.value.first same in
        rw (one, other) (ap (λ (x : Answer). x ∷ unboxed fs) e)
    by_rank Greater k rest =
        let behind : Precedes f.1.value.first a.first = subst (λ (s : Stamp). Precedes s a.first) h.0 k in
        let one : is_before a.first f.1.value.first ≡ false = before_false a.first f.1.value.first behind in
        let other : is_before f.1.value.first a.first ≡ true = before_true f.1.value.first a.first behind in
        rw (one, other) (ap (λ (xs : List Answer). f.1.value ∷ xs) rest)

pub stamped-insert : (es : List (Stamp × Box Answer)) (a : Answer) (b : Box Answer) → b.value ≡ a → AreStamped es → AreStamped (insert_entry stamp_cmp es a.first b)
stamped-insert [] a b e h = (sym (ap (λ (x : Answer). x.first) e), tt)
stamped-insert (f ∷ fs) a b e h = by_rank (stamp_cmp a.first f.0) (stamps_ranked a.first f.0) (stamped-insert fs a b e h.1)
  where
    own : a.first ≡ b.value.first
    own = sym (ap (λ (x : Answer). x.first) e)

    by_rank : (o : Ordering) → MatchOrdering o (Precedes a.first f.0) (IsSame a.first f.0) (Precedes f.0 a.first)
        → AreStamped (insert_entry stamp_cmp fs a.first b)
        → AreStamped (match_ordering o ((a.first, b) ∷ f ∷ fs) ((f.0, b) ∷ fs) (f ∷ insert_entry stamp_cmp fs a.first b))
    by_rank Less k rest = (own, h)
    by_rank Equal k rest = (sym (same_stamp a.first f.0 k) ∙ own, h.1)
    by_rank Greater k rest = (h.0, rest)

-- the map with an answer in a box more
pub boxed : (es fs : List (Stamp × Box Answer)) (old : List Answer) (a : Answer) (b : Box Answer) → unboxed es ≡ old → AreStamped es → b.value ≡ a → fs ≡ insert_entry stamp_cmp es a.first b
    → unboxed fs ≡ put_in a old
boxed es fs old a b view h e is = ap unboxed is ∙ unboxed-insert es a b e h ∙ ap (put_in a) view

pub boxed_stamped : (es fs : List (Stamp × Box Answer)) (a : Answer) (b : Box Answer) → AreStamped es → b.value ≡ a → fs ≡ insert_entry stamp_cmp es a.first b → AreStamped fs
boxed_stamped es fs a b h e is = subst AreStamped (sym is) (stamped-insert es a b e h)

pub first_unboxed : (es : List (Stamp × Box Answer)) (k : Stamp) (b : Box Answer) → slice_get es 0 ≡ Some (k, b) → slice_get (unboxed es) 0 ≡ Some b.value
first_unboxed [] k b h = absurd (cc)
first_unboxed (e ∷ es) k b h =
    let same : e ≡ (k, b) = cc in
    ap (λ (x : Stamp × Box Answer). Some x.1.value) same

pub none_unboxed : (es : List (Stamp × Box Answer)) → length es ≡ 0 → unboxed es ≡ []
none_unboxed [] h = refl
none_unboxed (e ∷ es) h = absurd (omega (arith, h))

-- ---- one more

pub all_put : (P : Answer → Type 0) (a : Answer) (bs : List Answer) → P a → AllByRecursion P bs → AllByRecursion P (put_in a bs)
all_put P a [] p h = (p, tt)
all_put P a (b ∷ bs) p h =
    ⊎_elim
    (λ (t : is_before a.first b.first ≡ true). rw t (p, h))
    (λ (f : is_before a.first b.first ≡ false).
    rw f
    (⊎_elim
    (λ (u : is_before b.first a.first ≡ true). rw u (h.0, all_put P a bs p h.1))
    (λ (v : is_before b.first a.first ≡ false). rw v (p, h.1))
    (cases_Bool (is_before b.first a.first))))
    (cases_Bool (is_before a.first b.first))

pub length_put : (a : Answer) (bs : List Answer) → length (put_in a bs) ≤ length bs + 1
length_put a [] = omega arith
length_put a (b ∷ bs) =
    ⊎_elim
    (λ (t : is_before a.first b.first ≡ true). rw t (omega arith))
    (λ (f : is_before a.first b.first ≡ false).
    rw f
    (⊎_elim
    (λ (u : is_before b.first a.first ≡ true). rw u (omega (arith, length_put a bs)))
    (λ (v : is_before b.first a.first ≡ false). rw v (omega arith))
    (cases_Bool (is_before b.first a.first))))
    (cases_Bool (is_before a.first b.first))

-- the answer is before or behind each of these
abbrev pub IsApart : Answer → List Answer → Type 0
IsApart a bs = AllByRecursion (λ b. Precedes a.first b.first ⊎ Precedes b.first a.first) bs

-- what holds in both cases holds of the answers with this one
put_by : (P : List Answer → Type 0) (a b : Answer) (bs : List Answer) → Precedes a.first b.first ⊎ Precedes b.first a.first
    → (Precedes a.first b.first → P (a ∷ b ∷ bs)) → (Precedes b.first a.first → P (b ∷ put_in a bs)) → P (put_in a (b ∷ bs))
put_by P a b bs apart before behind =
    ⊎_elim
    (λ (p : Precedes a.first b.first). let t : is_before a.first b.first ≡ true = before_true a.first b.first p in rw t (before p))
    (λ (p : Precedes b.first a.first).
    let f : is_before a.first b.first ≡ false = before_false a.first b.first p in
    let u : is_before b.first a.first ≡ true = before_true b.first a.first p in
    rw (f, u) (behind p))
    apart

pub each_put : (s : Stamp) (a : Answer) (bs : List Answer) → IsApart a bs → Precedes s a.first → PrecedesEach (λ (x : Answer). x.first) s bs
    → PrecedesEach (λ (x : Answer). x.first) s (put_in a bs)
each_put s a [] apart p h = (p, tt)
each_put s a (b ∷ bs) apart p h = put_by (PrecedesEach (λ (x : Answer). x.first) s) a b bs apart.0 (λ q. (p, h)) (λ q. (h.0, each_put s a bs apart.1 p h.1))

further : (s t : Stamp) (bs : List Answer) → Precedes s t → PrecedesEach (λ (x : Answer). x.first) t bs → PrecedesEach (λ (x : Answer). x.first) s bs
further s t [] p h = tt
further s t (b ∷ bs) p h = (precedes_trans s t b.first p h.0, further s t bs p h.1)

pub order_put : (a : Answer) (bs : List Answer) → IsApart a bs → InOrder (λ (x : Answer). x.first) bs → InOrder (λ (x : Answer). x.first) (put_in a bs)
order_put a [] apart h = (tt, tt)
order_put a (b ∷ bs) apart h =
    put_by (InOrder (λ (x : Answer). x.first)) a b bs apart.0
    (λ p. ((p, further a.first b.first bs p h.0), h))
    (λ p. (each_put b.first a bs apart.1 p h.0, order_put a bs apart.1 h.1))

pub same_put : (a : Answer) (bs : List Answer) → IsApart a bs → IsPermutation (a ∷ bs) (put_in a bs)
same_put a [] apart = IsPermutation-refl (a ∷ [])
same_put a (b ∷ bs) apart =
    put_by (IsPermutation (a ∷ b ∷ bs)) a b bs apart.0
    (λ p. IsPermutation-refl (a ∷ b ∷ bs))
    (λ p.
    IsPermutation-trans (a ∷ b ∷ bs) (b ∷ a ∷ bs) (b ∷ put_in a bs) (IsPermutation-middle (a ∷ []) b bs)
    (IsPermutation-cons b (a ∷ bs) (put_in a bs) (same_put a bs apart.1)))
