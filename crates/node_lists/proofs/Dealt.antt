-- Items dealt out in turn, one more or one fewer.
use Rattle.std.proofs.Common.{ℕ, ◌+◌, ◌*◌, ◌/◌, ◌%◌, ◌<◌, ◌≤◌, ◌≡◌, ◌≢◌, ◌↔◌, List, [], ◌∷◌, ◌++◌, length, get_or, map, sym, ap, ◌∙◌, subst, arith, ⊎_elim, ◌⊎◌, add_comm}
use Rattle.std.proofs.Math.Nat.{mul-le-mul_right}
use Rattle.std.proofs.lemmas.Nat.{div-add-mod', mod-mul-add, mod_below}
use Rattle.std.proofs.lemmas.List.{get_or_append_left, get_or_push, length_push, length-map, get_or-map, same_lists, nil_from_length}
use Rattle.ds_base.specs.Items.{Items}
use Rattle.node_lists.specs.Lists.{AppendsAt, items_at}
use Rattle.node_lists.specs.Dealing.{AreCounted, AreDealt}

-- ---- numbers

pub below_or_not : (k n : ℕ) → (k < n) ⊎ (n ≤ k)
below_or_not k n = grind arith

pub same_or_not : (k n : ℕ) → (k ≡ n) ⊎ (k ≢ n)
same_or_not k n = grind arith

-- each item has a list and a place there
pub has_place : (c count : ℕ) → c % count + c / count * count ≡ c
has_place c count = add_comm (c % count) (c / count * count) ∙ div-add-mod' c count

rises : (count i j : ℕ) → i < j → i * count + count ≤ j * count
rises count i j less = let whole : (i + 1) * count ≤ j * count = mul-le-mul_right count (omega arith) in omega (arith, whole)

-- places of one list follow each other as the items do
pub earlier : (count p i j : ℕ) → 0 < count → (i < j) ↔ (p + i * count < p + j * count)
earlier count p i j some = (
  (λ less. omega (arith, rises count i j less)),
  (λ less. ⊎_elim (λ (before : i < j). before) (λ (not : j ≤ i). absurd (omega (arith, less, mul-le-mul_right count not))) (below_or_not i j)),
)

not_after : (count p i j : ℕ) → 0 < count → i ≤ j → p + i * count ≤ p + j * count
not_after count p i j some at_most = let h : i * count ≤ j * count = mul-le-mul_right count at_most in omega (arith, h)

not_before : (count p i j : ℕ) → 0 < count → p + i * count ≤ p + j * count → i ≤ j
not_before count p i j some at_most =
    ⊎_elim (λ (less : j < i). absurd (omega (arith, at_most, (earlier count p j i some).0 less))) (λ (not : i ≤ j). not) (below_or_not j i)

other_below : (a n : ℕ) → a < n + 1 → a ≢ n → a < n
other_below a n less other = omega arith

-- items of different lists are different
pub apart : (count p q i j : ℕ) → p < count → q < count → p ≢ q → p + i * count ≢ q + j * count
apart count p q i j first second other same = other (sym (of_list p i first) ∙ ap (λ n. n % count) same ∙ of_list q j second)
  where
    of_list : (p i : ℕ) → p < count → (p + i * count) % count ≡ p
    of_list p i less = ap (λ n. n % count) (add_comm p (i * count)) ∙ mod-mul-add i count p less

-- ---- one item more

-- the item is the last of list p, at place i, and the other lists are the same
pub record OneMore {X : Type 0} (count : ℕ) (own own' : ℕ → List X) (x : X) (p i : ℕ) : Type 0 where
  pub there : p < count
  pub here : own' p ≡ own p ++ x ∷ []
  pub others : (q : ℕ) → q ≢ p → own' q ≡ own q

module _ {X : Type 0} (count n : ℕ) (own own' : ℕ → List X) (x : X) (p i : ℕ) (one : OneMore count own own' x p i) (last : n ≡ p + i * count) where
  some : 0 < count
  some = omega (arith, one.there)

  longer : length (own' p) ≡ length (own p) + 1
  longer = ap length one.here ∙ length_push (own p) x

  -- the number of items of list p, before and after
  place_before : AreCounted count n own → length (own p) ≡ i
  place_before counted =
      let not_less : length (own p) < i → ⊥ =
      λ less. let h : length (own p) < length (own p) = (counted.within p (length (own p)) one.there).1 (omega (arith, last, (earlier count p (length (own p)) i some).0 less)) in omega (arith, h) in
      let not_more : i < length (own p) → ⊥ = λ more. let h : p + i * count < n = (counted.within p i one.there).0 more in omega (arith, h, last) in
      exactly (length (own p)) i not_less not_more
    where
      exactly : (a b : ℕ) → (a < b → ⊥) → (b < a → ⊥) → a ≡ b
      exactly a b h k = ⊎_elim (λ (less : a < b). absurd (h less)) (λ (not : b ≤ a). ⊎_elim (λ (more : b < a). absurd (k more)) (λ (same : a ≤ b). omega arith) (below_or_not b a)) (below_or_not a b)

  place_after : AreCounted count (n + 1) own' → length (own p) ≡ i
  place_after counted =
      let low : i < length (own' p) = (counted.within p i one.there).1 (omega (arith, last)) in
      let not_more : i < length (own p) → ⊥ =
      λ more. let h : p + length (own p) * count < n + 1 = (counted.within p (length (own p)) one.there).0 (omega (arith, longer)) in
      let k : p + i * count < p + length (own p) * count = (earlier count p i (length (own p)) some).0 more in omega (arith, h, k, last) in
      omega (arith, low, longer, at_most (length (own p)) i not_more)
    where
      at_most : (a b : ℕ) → (b < a → ⊥) → a ≤ b
      at_most a b h = ⊎_elim (λ (more : b < a). absurd (h more)) (λ (not : a ≤ b). not) (below_or_not b a)

  -- item n is in list p alone
  not_other : (q j : ℕ) → q < count → q ≢ p → q + j * count ≢ n
  not_other q j less other same = apart count q p j i less one.there other (same ∙ last)

  pub counted_more : AreCounted count n own → AreCounted count (n + 1) own'
  counted_more counted = record {
    within = λ q j less.
        ⊎_elim
        (λ (here : q ≡ p).
        subst (λ (r : ℕ). (j < length (own' r)) ↔ (r + j * count < n + 1)) (sym here) (
          (λ h. omega (arith, last, not_after count p j i some (omega (arith, h, longer, place_before counted)))),
          (λ h. omega (arith, longer, place_before counted, not_before count p j i some (omega (arith, h, last)))),
        ))
        (λ (other : q ≢ p).
        subst (λ (l : List X). (j < length l) ↔ (q + j * count < n + 1)) (sym (one.others q other)) (
          (λ h. let k : q + j * count < n = (counted.within q j less).0 h in omega (arith, k)),
          (λ h. (counted.within q j less).1 (other_below (q + j * count) n h (not_other q j less other))),
        ))
        (same_or_not q p);
  }

  pub counted_less : AreCounted count (n + 1) own' → AreCounted count n own
  counted_less counted = record {
    within = λ q j less.
        ⊎_elim
        (λ (here : q ≡ p).
        subst (λ (r : ℕ). (j < length (own r)) ↔ (r + j * count < n)) (sym here) (
          (λ h. let k : p + j * count < p + i * count = (earlier count p j i some).0 (omega (arith, h, place_after counted)) in omega (arith, last, k)),
          (λ h. let k : j < i = (earlier count p j i some).1 (omega (arith, h, last)) in omega (arith, k, place_after counted)),
        ))
        (λ (other : q ≢ p).
        subst (λ (l : List X). (j < length l) ↔ (q + j * count < n)) (one.others q other) (
          (λ h. other_below (q + j * count) n ((counted.within q j less).0 h) (not_other q j less other)),
          (λ h. (counted.within q j less).1 (omega (arith, h))),
        ))
        (same_or_not q p);
  }

pub dealt_more : {X : Type 0} (count : ℕ) (items items' : List X) (own own' : ℕ → List X) (x : X) (p i : ℕ) → OneMore count own own' x p i → length items ≡ p + i * count
    → items' ≡ items ++ x ∷ [] → AreDealt count items own → AreDealt count items' own'
dealt_more {X = X} count items items' own own' x p i one last pushed dealt = record {
  counted = subst (λ (n : ℕ). AreCounted count n own') (sym (ap length pushed ∙ length_push items x)) (counted_more count (length items) own own' x p i one last dealt.counted);
  same = λ q j d less there.
      ⊎_elim
      (λ (here : q ≡ p).
      subst (λ (r : ℕ). get_or (own' r) j d ≡ get_or items' (r + j * count) d) (sym here) (at_list j d (subst (λ (r : ℕ). j < length (own' r)) here there)))
      (λ (other : q ≢ p).
      let inside : j < length (own q) = subst (λ (l : List X). j < length l) (one.others q other) there in
      ap (λ (l : List X). get_or l j d) (one.others q other) ∙ dealt.same q j d less inside ∙ in_front (q + j * count) d ((dealt.counted.within q j less).0 inside))
      (same_or_not q p);
}
  where
    in_front : (c : ℕ) (d : X) → c < length items → get_or items c d ≡ get_or items' c d
    in_front c d less = sym (ap (λ (l : List X). get_or l c d) pushed ∙ get_or_append_left items (x ∷ []) d c less)

    place : length (own p) ≡ i
    place = place_before count (length items) own own' x p i one last dealt.counted

    at_list : (j : ℕ) (d : X) → j < length (own' p) → get_or (own' p) j d ≡ get_or items' (p + j * count) d
    at_list j d there =
        ⊎_elim
        (λ (before : j < length (own p)).
        ap (λ (l : List X). get_or l j d) one.here ∙ get_or_append_left (own p) (x ∷ []) d j before ∙ dealt.same p j d one.there before
        ∙ in_front (p + j * count) d ((dealt.counted.within p j one.there).0 before))
        (λ (not : length (own p) ≤ j).
        let at : length (own p) ≡ j = omega (arith, not, there, longer count (length items) own own' x p i one last) in
        let same : length items ≡ p + j * count = last ∙ ap (λ k. p + k * count) (sym place ∙ at) in
        ap (λ (l : List X). get_or l j d) one.here ∙ get_or_push (own p) x d j at ∙ sym (ap (λ (l : List X). get_or l (p + j * count) d) pushed ∙ get_or_push items x d (p + j * count) same))
        (below_or_not j (length (own p)))

-- ---- the last item of all

pub one_of : {X : Type 0} (before after : List (Items X)) (count c p : ℕ) (x : X) → 0 < count → p ≡ c % count → AppendsAt before after p (x ∷ []) → OneMore count (items_at before) (items_at after) x p (c / count)
one_of before after count c p x some at app = record { there = omega (arith, at, mod_below c count some); here = app.here; others = app.others }

pub place_is : (count c p : ℕ) → p ≡ c % count → c ≡ p + c / count * count
place_is count c p at = sym (ap (λ q. q + c / count * count) at ∙ has_place c count)

pub none_counted : {X : Type 0} (count n : ℕ) (own : ℕ → List X) → AreCounted count n own → n ≡ 0 → (p : ℕ) → p < count → own p ≡ []
none_counted count n own counted none p less =
    nil_from_length (own p)
    (⊎_elim
    (λ (some : 0 < length (own p)). let h : p + 0 * count < n = (counted.within p 0 less).0 some in absurd (omega (arith, h, none)))
    (λ (not : length (own p) ≤ 0). omega arith)
    (below_or_not 0 (length (own p))))

pub has_last : {X : Type 0} (count c p : ℕ) (own : ℕ → List X) → AreCounted count (c + 1) own → 0 < count → p ≡ c % count → 0 < length (own p)
has_last count c p own counted some at =
    let there : c / count < length (own p) = (counted.within p (c / count) (omega (arith, at, mod_below c count some))).1 (omega (arith, place_is count c p at)) in omega (arith, there)

-- ---- what is dealt out is one list

pub dealt_is_one : {X : Type 0} (count : ℕ) (xs ys : List X) (own : ℕ → List X) → 0 < count → AreDealt count xs own → AreDealt count ys own → xs ≡ ys
dealt_is_one {X = X} count xs ys own some dealt again = same_lists xs ys (as_many (length xs) (length ys) (counts xs ys dealt again) (counts ys xs again dealt)) each
  where
    as_many : (a b : ℕ) → a ≤ b → b ≤ a → a ≡ b
    as_many a b h k = omega arith

    place : (zs : List X) → AreDealt count zs own → (c : ℕ) → c < length zs → c / count < length (own (c % count))
    place zs are c less = (are.counted.within (c % count) (c / count) (mod_below c count some)).1 (omega (arith, less, has_place c count))

    counts : (ps qs : List X) → AreDealt count ps own → AreDealt count qs own → length ps ≤ length qs
    counts ps qs first second =
        ⊎_elim
        (λ (fewer : length qs < length ps).
        let h : length qs % count + length qs / count * count < length qs =
        (second.counted.within (length qs % count) (length qs / count) (mod_below (length qs) count some)).0 (place ps first (length qs) fewer) in
        absurd (omega (arith, h, has_place (length qs) count)))
        (λ (not : length ps ≤ length qs). not)
        (below_or_not (length qs) (length ps))

    at : (zs : List X) → AreDealt count zs own → (c : ℕ) (d : X) → c < length zs → get_or zs c d ≡ get_or (own (c % count)) (c / count) d
    at zs are c d less =
        sym (are.same (c % count) (c / count) d (mod_below c count some) (place zs are c less) ∙ ap (λ k. get_or zs k d) (has_place c count))

    each : (c : ℕ) (d : X) → c < length xs → get_or xs c d ≡ get_or ys c d
    each c d less = at xs dealt c d less ∙ sym (at ys again c d (omega (arith, less, counts xs ys dealt again)))

pub dealt_same : {X : Type 0} (count : ℕ) (xs : List X) (own own' : ℕ → List X) → ((p : ℕ) → p < count → own' p ≡ own p) → AreDealt count xs own → AreDealt count xs own'
dealt_same {X = X} count xs own own' same dealt = record {
  counted = record { within = λ p i less. subst (λ (l : List X). (i < length l) ↔ (p + i * count < length xs)) (sym (same p less)) (dealt.counted.within p i less) };
  same = λ p i d less there.
      ap (λ (l : List X). get_or l i d) (same p less) ∙ dealt.same p i d less (subst (λ (l : List X). i < length l) (same p less) there);
}

pub dealt_map : {X Y : Type 0} (f : X → Y) (count : ℕ) (xs : List X) (own : ℕ → List X) → AreDealt count xs own → AreDealt count (map f xs) (λ p. map f (own p))
dealt_map {X = X} {Y = Y} f count xs own dealt = record {
  counted = record {
    within = λ p i less.
        subst (λ (n : ℕ). (i < n) ↔ (p + i * count < length (map f xs))) (sym (length-map (own p) f))
        (subst (λ (n : ℕ). (i < length (own p)) ↔ (p + i * count < n)) (sym (length-map xs f)) (dealt.counted.within p i less));
  };
  same = λ p i e less there.
      let inside : i < length (own p) = subst (λ (n : ℕ). i < n) (length-map (own p) f) there in
      let d : X = some_of (own p) i inside in
      get_or-map f (own p) i d e inside ∙ ap f (dealt.same p i d less inside) ∙ sym (get_or-map f xs (p + i * count) d e ((dealt.counted.within p i less).0 inside));
}
  where
    some_of : (l : List X) (k : ℕ) → k < length l → X
    some_of [] k less = absurd (omega arith)
    some_of (x ∷ l) k less = x
