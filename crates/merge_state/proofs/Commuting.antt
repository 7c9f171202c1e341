-- Rows that are put come to the same in any order.
use Rattle.std.proofs.Common.{ℕ, List, [], ◌∷◌, ◌++◌, ◌≡◌, ◌<◌, ◌+◌, inl, inr, refl, sym, ap, ◌∙◌, arith, length, max, min}
use Rattle.std.specs.List.{AllByRecursion}
use Rattle.std.proofs.lemmas.Bool.{cases_order}
use Rattle.ds_base.specs.declared.profile_row.ProfileRow.{ProfileRow}
use Rattle.profiles.specs.Put.{pair_number, put, put_all}
use Rattle.profiles.specs.Rows.{added, joined}
use Rattle.profiles.proofs.Put.{put-before, put-here, put-behind, same_pair}

-- ---- classes

cons_same : (x y : ℕ) (xs ys : List ℕ) → x ≡ y → xs ≡ ys → x ∷ xs ≡ y ∷ ys
cons_same x y xs ys e f = cc

added_right : (h a b : List ℕ) → added (added h b) a ≡ added (added h a) b
added_right [] a b = refl
added_right (x ∷ xs) [] [] = refl
added_right (x ∷ xs) [] (z ∷ zs) = refl
added_right (x ∷ xs) (y ∷ ys) [] = refl
added_right (x ∷ xs) (y ∷ ys) (z ∷ zs) =
    cons_same ((x + z) + y) ((x + y) + z) (added (added xs zs) ys) (added (added xs ys) zs) (omega arith) (added_right xs ys zs)

added_turned : (a b : List ℕ) → length a ≡ length b → added a b ≡ added b a
added_turned [] [] e = refl
added_turned [] (y ∷ ys) e = absurd (omega (arith, e))
added_turned (x ∷ xs) [] e = absurd (omega (arith, e))
added_turned (x ∷ xs) (y ∷ ys) e = cons_same (x + y) (y + x) (added xs ys) (added ys xs) (omega arith) (added_turned xs ys (omega (arith, e)))

-- ---- rows of one pair

abbrev row_by : ℕ → ℕ → ℕ → ℕ → ℕ → ℕ → List ℕ → ProfileRow
row_by f t c s l g k = record { from = f; to = t; count = c; sum = s; least = l; greatest = g; classes = k }

same_parts : (f f' t t' c c' s s' l l' g g' : ℕ) (k k' : List ℕ) → f ≡ f' → t ≡ t' → c ≡ c' → s ≡ s' → l ≡ l' → g ≡ g' → k ≡ k' → row_by f t c s l g k ≡ row_by f' t' c' s' l' g' k'
same_parts f f' t t' c c' s s' l l' g g' k k' p q r u v w x = cc

joined_right : (h a b : ProfileRow) → joined (joined h b) a ≡ joined (joined h a) b
joined_right h a b =
    same_parts h.from h.from h.to h.to ((h.count + b.count) + a.count) ((h.count + a.count) + b.count) ((h.sum + b.sum) + a.sum) ((h.sum + a.sum) + b.sum)
    (min (min h.least b.least) a.least) (min (min h.least a.least) b.least) (max (max h.greatest b.greatest) a.greatest) (max (max h.greatest a.greatest) b.greatest)
    (added (added h.classes b.classes) a.classes) (added (added h.classes a.classes) b.classes)
    refl refl (omega arith) (omega arith) (omega arith) (omega arith) (added_right h.classes a.classes b.classes)

joined_turned : (a b : ProfileRow) → (a.from ≡ b.from) × (a.to ≡ b.to) → length a.classes ≡ length b.classes → joined a b ≡ joined b a
joined_turned a b e w =
    same_parts a.from b.from a.to b.to (a.count + b.count) (b.count + a.count) (a.sum + b.sum) (b.sum + a.sum)
    (min a.least b.least) (min b.least a.least) (max a.greatest b.greatest) (max b.greatest a.greatest) (added a.classes b.classes) (added b.classes a.classes)
    e.0 e.1 (omega arith) (omega arith) (omega arith) (omega arith) (added_turned a.classes b.classes w)

-- ---- two rows

-- two ways to one list
two_ways : (a b : ProfileRow) (rows l r m : List ProfileRow) → put b rows ≡ l → put a l ≡ m → put a rows ≡ r → put b r ≡ m → put a (put b rows) ≡ put b (put a rows)
two_ways a b rows l r m p q s t = ap (put a) p ∙ q ∙ sym t ∙ sym (ap (put b) s)

-- rows of one width, whose captures are below 64
pub record AreAlike (a b : ProfileRow) : Type 0 where
  pub first : a.to < 64
  pub second : b.to < 64
  pub width : length a.classes ≡ length b.classes

module _ (a b : ProfileRow) (alike : AreAlike a b) where
  one_row : pair_number a ≡ pair_number b → joined a b ≡ joined b a
  one_row e = joined_turned a b (same_pair a b alike.first alike.second e) alike.width

  none_there : put a (put b []) ≡ put b (put a [])
  none_there = elim (cases_order (pair_number a) (pair_number b)) [
    | inl e ↦ put-here a b [] (sym e) ∙ ap (λ (x : ProfileRow). x ∷ []) (sym (one_row e)) ∙ sym (put-here b a [] e)
    | inr d ↦ elim d [
      | inl lt ↦ put-before a b [] lt ∙ sym (put-behind b a [] lt)
      | inr lt ↦ put-behind a b [] lt ∙ sym (put-before b a [] lt)
    ]
  ]

  both_before : (x : ProfileRow) (xs : List ProfileRow) → pair_number a < pair_number x → pair_number b < pair_number x → put a (put b (x ∷ xs)) ≡ put b (put a (x ∷ xs))
  both_before x xs p q = elim (cases_order (pair_number a) (pair_number b)) [
    | inl e ↦
        two_ways a b (x ∷ xs) (b ∷ x ∷ xs) (a ∷ x ∷ xs) (joined b a ∷ x ∷ xs) (put-before b x xs q) (put-here a b (x ∷ xs) (sym e)) (put-before a x xs p)
        (put-here b a (x ∷ xs) e ∙ ap (λ (y : ProfileRow). y ∷ x ∷ xs) (one_row e))
    | inr d ↦ elim d [
      | inl lt ↦
          two_ways a b (x ∷ xs) (b ∷ x ∷ xs) (a ∷ x ∷ xs) (a ∷ b ∷ x ∷ xs) (put-before b x xs q) (put-before a b (x ∷ xs) lt) (put-before a x xs p)
          (put-behind b a (x ∷ xs) lt ∙ ap (λ (ys : List ProfileRow). a ∷ ys) (put-before b x xs q))
      | inr lt ↦
          two_ways a b (x ∷ xs) (b ∷ x ∷ xs) (a ∷ x ∷ xs) (b ∷ a ∷ x ∷ xs) (put-before b x xs q)
          (put-behind a b (x ∷ xs) lt ∙ ap (λ (ys : List ProfileRow). b ∷ ys) (put-before a x xs p)) (put-before a x xs p) (put-before b a (x ∷ xs) lt)
    ]
  ]

-- the first goes before, and the second to a row or behind it
before_here : (a b x : ProfileRow) (xs : List ProfileRow) → pair_number a < pair_number x → pair_number x ≡ pair_number b → put a (put b (x ∷ xs)) ≡ put b (put a (x ∷ xs))
before_here a b x xs p e =
    let lt : pair_number a < pair_number b = omega (arith, p, e) in
    two_ways a b (x ∷ xs) (joined x b ∷ xs) (a ∷ x ∷ xs) (a ∷ joined x b ∷ xs) (put-here b x xs e) (put-before a (joined x b) xs p) (put-before a x xs p)
    (put-behind b a (x ∷ xs) lt ∙ ap (λ (ys : List ProfileRow). a ∷ ys) (put-here b x xs e))

before_behind : (a b x : ProfileRow) (xs : List ProfileRow) → pair_number a < pair_number x → pair_number x < pair_number b → put a (put b (x ∷ xs)) ≡ put b (put a (x ∷ xs))
before_behind a b x xs p q =
    let lt : pair_number a < pair_number b = omega (arith, p, q) in
    two_ways a b (x ∷ xs) (x ∷ put b xs) (a ∷ x ∷ xs) (a ∷ x ∷ put b xs) (put-behind b x xs q) (put-before a x (put b xs) p) (put-before a x xs p)
    (put-behind b a (x ∷ xs) lt ∙ ap (λ (ys : List ProfileRow). a ∷ ys) (put-behind b x xs q))

here_behind : (a b x : ProfileRow) (xs : List ProfileRow) → pair_number x ≡ pair_number a → pair_number x < pair_number b → put a (put b (x ∷ xs)) ≡ put b (put a (x ∷ xs))
here_behind a b x xs e q =
    two_ways a b (x ∷ xs) (x ∷ put b xs) (joined x a ∷ xs) (joined x a ∷ put b xs) (put-behind b x xs q) (put-here a x (put b xs) e) (put-here a x xs e)
    (put-behind b (joined x a) xs q)

both_here : (a b x : ProfileRow) (xs : List ProfileRow) → pair_number x ≡ pair_number a → pair_number x ≡ pair_number b → put a (put b (x ∷ xs)) ≡ put b (put a (x ∷ xs))
both_here a b x xs e f =
    two_ways a b (x ∷ xs) (joined x b ∷ xs) (joined x a ∷ xs) (joined (joined x b) a ∷ xs) (put-here b x xs f) (put-here a (joined x b) xs e) (put-here a x xs e)
    (put-here b (joined x a) xs f ∙ ap (λ (y : ProfileRow). y ∷ xs) (joined_right x b a))

both_behind : (a b x : ProfileRow) (xs : List ProfileRow) → pair_number x < pair_number a → pair_number x < pair_number b → put a (put b xs) ≡ put b (put a xs)
    → put a (put b (x ∷ xs)) ≡ put b (put a (x ∷ xs))
both_behind a b x xs p q rest =
    two_ways a b (x ∷ xs) (x ∷ put b xs) (x ∷ put a xs) (x ∷ put a (put b xs)) (put-behind b x xs q) (put-behind a x (put b xs) p) (put-behind a x xs p)
    (put-behind b x (put a xs) q ∙ ap (λ (ys : List ProfileRow). x ∷ ys) (sym rest))

-- the order of two rows that are put does not matter
pub put_turned : (a b : ProfileRow) → AreAlike a b → (rows : List ProfileRow) → put a (put b rows) ≡ put b (put a rows)
put_turned a b alike [] = none_there a b alike
put_turned a b alike (x ∷ xs) = elim (cases_order (pair_number x) (pair_number a)) [
  | inl e ↦ elim (cases_order (pair_number x) (pair_number b)) [
    | inl f ↦ both_here a b x xs e f
    | inr d ↦ elim d [
      | inl q ↦ here_behind a b x xs e q
      | inr q ↦ sym (before_here b a x xs q e)
    ]
  ]
  | inr c ↦ elim c [
    | inl p ↦ elim (cases_order (pair_number x) (pair_number b)) [
      | inl f ↦ sym (here_behind b a x xs f p)
      | inr d ↦ elim d [
        | inl q ↦ both_behind a b x xs p q (put_turned a b alike xs)
        | inr q ↦ sym (before_behind b a x xs q p)
      ]
    ]
    | inr p ↦ elim (cases_order (pair_number x) (pair_number b)) [
      | inl f ↦ before_here a b x xs p f
      | inr d ↦ elim d [
        | inl q ↦ before_behind a b x xs p q
        | inr q ↦ both_before a b alike x xs p q
      ]
    ]
  ]
]

-- ---- one row more, behind several

pub put_all_push : (more : List ProfileRow) (row : ProfileRow) (rows : List ProfileRow) → put_all (more ++ row ∷ []) rows ≡ put row (put_all more rows)
put_all_push [] row rows = refl
put_all_push (x ∷ xs) row rows = put_all_push xs row (put x rows)

pub put_all_past : (more : List ProfileRow) (row : ProfileRow) (rows : List ProfileRow) → AllByRecursion (λ x. AreAlike x row) more
    → put_all more (put row rows) ≡ put row (put_all more rows)
put_all_past [] row rows h = refl
put_all_past (x ∷ xs) row rows h = ap (put_all xs) (put_turned x row h.0 rows) ∙ put_all_past xs row (put x rows) h.1
