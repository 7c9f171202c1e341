-- The answers that were pushed and those that wait are all answers in their order, one answer more.
use Rattle.std.proofs.Common.{ℕ, Bool, true, false, List, [], ◌∷◌, ◌++◌, ◌≡◌, ◌⊎◌, ◌≤◌, ◌<◌, ◌^◌, Option, Some, None, inl, inr, refl, sym, ap, subst, ◌∙◌, ⊎_elim, arith, length, length-append}
use Rattle.std.specs.Prelude.{not, ◌||◌}
use Rattle.std.specs.List.{AllByRecursion, IsDistinct}
use Rattle.std.specs.List.Sorted.{IsPermutation}
use Rattle.std.proofs.lemmas.Bool.Decides.{nat_tests}
use Rattle.std.proofs.lemmas.List.{append-nil}
use Rattle.std.proofs.lemmas.List.Sorted.{IsPermutation-trans, IsPermutation-sym, IsPermutation-cons, IsPermutation-append_right, IsPermutation-append_comm, IsPermutation-middle, length_permutation}
use Rattle.std.proofs.lemmas.Map.Keys.{IsDistinct-IsPermutation}
use Rattle.ds_base.specs.Fronts.{PrecedesEach, InOrder}
use Rattle.ds_base.specs.Order.{Precedes}
use Rattle.ds_base.specs.declared.stamp.Stamp.{Stamp}
use Rattle.ds_base.specs.declared.verdict.Answer.{Answer}
use Rattle.ds_base.proofs.Fronts.{same_front}
use Rattle.node_frames.specs.declared.frame.Frame.{Frame}
use Rattle.node_frames.specs.declared.frame.Frame.TheVariants.{AnswerRow}
use Rattle.summary_spec.specs.Declaration.{Declared}
use Rattle.watermarks.specs.Least.{under}
use Rattle.window_grouper.specs.Sorted.{is_before}
use Rattle.window_grouper.proofs.Stamps.{before_true}
use Rattle.run_law.specs.Links.{MayFollow, AnswerRule, IsAnswerOf, members_told, members_answered}
use Rattle.run_law.specs.Nodes.{least_of_links, AreInOrder}
use Rattle.run_law.specs.Sent.{answer_in, answers_in}
use Rattle.run_law.proofs.Lists.{in_permutation}
use Rattle.run_law.proofs.Parts.{IsPart}
use Rattle.run_law.proofs.Sorted.{in_turn, same_in_turn, part_in_turn}
use Rattle.run_law.proofs.Written.{upto_always}
use Rattle.merge_state.specs.Queues.{put_in}
use Rattle.merge_state.specs.States.{TakesOne, AnswersKept, answers_over}
use Rattle.merge_state.proofs.Links.{answers_push, told_push, each_on, same_on, flat_below, flat_push}
use Rattle.merge_state.proofs.Marks.{rises, answer_late}
use Rattle.merge_state.proofs.Queues.{IsApart, all_put, each_put, length_put, order_put, same_put}

-- the stamp of an answer's first
abbrev first_of : Answer → Stamp
first_of a = a.first

-- ---- answers of which no firsts are equal

precedes_before : (a b : Stamp) → is_before a b ≡ true → Precedes a b
precedes_before a b h = grind (arith, nat_tests)

-- whether two stamps are one
abbrev is_one : Answer → Answer → Bool
is_one a b = not (is_before a.first b.first || is_before b.first a.first)

either_way : (p q : Bool) → not (p || q) ≡ not (q || p)
either_way true true = refl
either_way true false = refl
either_way false true = refl
either_way false false = refl

two_ways : (p q : Bool) → not (p || q) ≡ false → (p ≡ true) ⊎ (q ≡ true)
two_ways true q h = inl refl
two_ways false true h = inr refl
two_ways false false h = absurd (cc)

apart_from : (a b : Answer) → is_one a b ≡ false → Precedes a.first b.first ⊎ Precedes b.first a.first
apart_from a b h =
    ⊎_elim
    (λ (f : is_before a.first b.first ≡ true). inl (precedes_before a.first b.first f))
    (λ (s : is_before b.first a.first ≡ true). inr (precedes_before b.first a.first s))
    (two_ways (is_before a.first b.first) (is_before b.first a.first) h)

not_one : (a b : Answer) → Precedes a.first b.first → is_one a b ≡ false
not_one a b h = ap (λ (p : Bool). not (p || is_before b.first a.first)) (before_true a.first b.first h)

apart_each : (x : Answer) (ys : List Answer) → PrecedesEach first_of x.first ys → AllByRecursion (λ y. is_one x y ≡ false) ys
apart_each x [] h = tt
apart_each x (y ∷ ys) h = (not_one x y h.0, apart_each x ys h.1)

distinct_ordered : (xs : List Answer) → InOrder first_of xs → IsDistinct is_one xs
unfolding IsDistinct
distinct_ordered [] h = tt
distinct_ordered (x ∷ xs) h = (apart_each x xs h.0, distinct_ordered xs h.1)

head_apart : (a : Answer) (xs : List Answer) → IsDistinct is_one (a ∷ xs) → IsApart a xs
unfolding IsDistinct
head_apart a xs h = each xs h.0
  where
    each : (ys : List Answer) → AllByRecursion (λ y. is_one a y ≡ false) ys → IsApart a ys
    each [] k = tt
    each (y ∷ ys) k = (apart_from a y k.0, each ys k.1)

-- an answer among others in order is before or behind each of them
apart_in : (a : Answer) (xs ordered : List Answer) → IsPermutation (a ∷ xs) ordered → InOrder first_of ordered → IsApart a xs
apart_in a xs ordered p h =
    head_apart a xs
    (IsDistinct-IsPermutation is_one (λ x y. either_way (is_before x.first y.first) (is_before y.first x.first)) ordered (a ∷ xs)
    (IsPermutation-sym (a ∷ xs) ordered p) (distinct_ordered ordered h))

-- ---- one order

-- lists in order that have the same items are one
one_order : (xs ys : List Answer) → InOrder first_of xs → InOrder first_of ys → IsPermutation xs ys → xs ≡ ys
one_order xs ys h k p =
    sym (upto_always (λ a. true) xs (λ a. refl))
    ∙ same_front first_of (λ a. true) xs ys h k (λ a b before pass. refl)
    (λ a pass. (in_permutation a xs ys p, in_permutation a ys xs (IsPermutation-sym xs ys p)))
    ∙ upto_always (λ a. true) ys (λ a. refl)

-- ---- behind those that were pushed

each_behind : (s : Stamp) (a : Answer) (given waiting : List Answer) → IsApart a waiting → Precedes s a.first → PrecedesEach first_of s (given ++ waiting)
    → PrecedesEach first_of s (given ++ put_in a waiting)
each_behind s a [] waiting apart p h = each_put s a waiting apart p h
each_behind s a (g ∷ gs) waiting apart p h = (h.0, each_behind s a gs waiting apart p h.1)

order_behind : (a : Answer) (given waiting : List Answer) → IsApart a waiting → AllByRecursion (λ g. Precedes g.first a.first) given → InOrder first_of (given ++ waiting)
    → InOrder first_of (given ++ put_in a waiting)
order_behind a [] waiting apart early h = order_put a waiting apart h
order_behind a (g ∷ gs) waiting apart early h = (each_behind g.first a gs waiting apart early.0 h.0, order_behind a gs waiting apart early.1 h.1)

same_behind : (a : Answer) (given waiting : List Answer) → IsApart a waiting → IsPermutation (a ∷ (given ++ waiting)) (given ++ put_in a waiting)
same_behind a given waiting apart =
    IsPermutation-trans (a ∷ (given ++ waiting)) (given ++ a ∷ waiting) (given ++ put_in a waiting)
    (IsPermutation-sym (given ++ a ∷ waiting) (a ∷ (given ++ waiting)) (IsPermutation-middle given a waiting))
    (IsPermutation-append_right given (a ∷ waiting) (put_in a waiting) (same_put a waiting apart))

all_right : (P : Answer → Type 0) (xs ys : List Answer) → AllByRecursion P (xs ++ ys) → AllByRecursion P ys
all_right P [] ys h = h
all_right P (x ∷ xs) ys h = all_right P xs ys h.1

-- what is below a mark is before what is not
early_given : (least : ℕ → Bool) (a : Answer) (given : List Answer) → ((t u : ℕ) → least t ≡ true → least u ≡ false → t < u) → least a.first.time ≡ false
    → AllByRecursion (λ g. least g.first.time ≡ true) given → AllByRecursion (λ g. Precedes g.first a.first) given
early_given least a [] falls late h = tt
early_given least a (g ∷ gs) falls late h = (inl (falls g.first.time a.first.time h.0 late), early_given least a gs falls late h.1)

passed_on : (old new : ℕ → Bool) → ((t : ℕ) → old t ≡ true → new t ≡ true) → (given : List Answer) → AllByRecursion (λ g. old g.first.time ≡ true) given
    → AllByRecursion (λ g. new g.first.time ≡ true) given
passed_on old new more [] h = tt
passed_on old new more (g ∷ gs) h = (more g.first.time h.0, passed_on old new more gs h.1)

-- ---- a frame that is no answer

module _ (job : Declared) (n : ℕ) (taken more : ℕ → List Frame) (q : ℕ) (f : Frame) (takes : TakesOne n taken more q f)
    (may : MayFollow (AnswerRule job) (taken q) f) (given waiting : List Answer) (kept : AnswersKept job n taken given waiting) where
  pub takes_other : answer_in f ≡ [] → members_told f ≡ 0 → AnswersKept job n more given waiting
  takes_other none nobody =
      let still : answers_in (taken q ++ f ∷ []) ≡ answers_in (taken q) =
      answers_push (taken q) f ∙ ap (λ (xs : List Answer). answers_in (taken q) ++ xs) none ∙ append-nil (answers_in (taken q)) in
      let same : answers_over n more ≡ answers_over n taken =
      flat_below (λ k. answers_in (taken k)) (λ k. answers_in (more k)) n (same_on answers_in n taken more q f takes still) in
      record {
        in_order = λ ordered h. kept.in_order ordered (subst (λ (xs : List Answer). AreInOrder xs ordered) same h);
        passed = passed_on (under (least_of_links n taken)) (under (least_of_links n more)) (rises job n taken more q f takes may) given kept.passed;
        of_job = kept.of_job;
        few = omega (arith, kept.few, ap length same);
        told =
            each_on (λ k fs. length (answers_in fs) ≤ members_answered fs) n taken more q f takes
            (omega (arith, kept.told q takes.there, ap length still, told_push (taken q) f, nobody)) kept.told;
        within =
            each_on (λ k fs. members_answered fs ≤ 2 ^ 50) n taken more q f takes
            (omega (arith, told_push (taken q) f, nobody, kept.within q takes.there)) kept.within;
      }

-- ---- one answer more

module _ (job : Declared) (n : ℕ) (taken more : ℕ → List Frame) (q : ℕ) (a : Answer) (takes : TakesOne n taken more q (AnswerRow a))
    (may : MayFollow (AnswerRule job) (taken q) (AnswerRow a)) (given waiting : List Answer) (kept : AnswersKept job n taken given waiting) where
  same_answers : IsPermutation (a ∷ answers_over n taken) (answers_over n more)
  same_answers =
      flat_push (λ k. answers_in (taken k)) (λ k. answers_in (more k)) q a 0 n (omega arith) (omega (arith, takes.there))
      (ap answers_in takes.here ∙ answers_push (taken q) (AnswerRow a))
      (λ k low high other. ap answers_in (takes.others k (omega (arith, high)) other))

  late : under (least_of_links n taken) a.first.time ≡ false
  late = answer_late job n taken q a takes.there may

  early : AllByRecursion (λ g. Precedes g.first a.first) given
  early = early_given (under (least_of_links n taken)) a given (falls (least_of_links n taken)) late kept.passed
    where
      falls : (b : Option ℕ) (t u : ℕ) → under b t ≡ true → under b u ≡ false → t < u
      falls None t u h k = absurd (cc)
      falls (Some m) t u h k = grind (arith, nat_tests)

  in_order_more : (ordered : List Answer) → AreInOrder (answers_over n more) ordered → ordered ≡ given ++ put_in a waiting
  in_order_more ordered h =
      let olds : List Answer = answers_over n taken in
      let with_new : IsPermutation (a ∷ olds) ordered = IsPermutation-trans (a ∷ olds) (answers_over n more) ordered same_answers h.same in
      let part : IsPart olds ordered = record { others = a ∷ []; same = IsPermutation-trans (olds ++ a ∷ []) (a ∷ olds) ordered (IsPermutation-append_comm olds (a ∷ [])) with_new } in
      let old_order : InOrder first_of (in_turn first_of olds) = part_in_turn first_of olds ordered part h.rises in
      let whole : in_turn first_of olds ≡ given ++ waiting = kept.in_order (in_turn first_of olds) (record { rises = old_order; same = same_in_turn first_of olds }) in
      let rises : InOrder first_of (given ++ waiting) = subst (InOrder first_of) whole old_order in
      let same : IsPermutation olds (given ++ waiting) = subst (IsPermutation olds) whole (same_in_turn first_of olds) in
      let all : IsPermutation (a ∷ (given ++ waiting)) ordered =
      IsPermutation-trans (a ∷ (given ++ waiting)) (a ∷ olds) ordered
      (IsPermutation-sym (a ∷ olds) (a ∷ (given ++ waiting)) (IsPermutation-cons a olds (given ++ waiting) same)) with_new in
      let apart : IsApart a waiting = all_right (λ b. Precedes a.first b.first ⊎ Precedes b.first a.first) given waiting (apart_in a (given ++ waiting) ordered all h.rises) in
      one_order ordered (given ++ put_in a waiting) h.rises (order_behind a given waiting apart early rises)
      (IsPermutation-trans ordered (a ∷ (given ++ waiting)) (given ++ put_in a waiting) (IsPermutation-sym (a ∷ (given ++ waiting)) ordered all) (same_behind a given waiting apart))

  passed_more : AllByRecursion (λ g. under (least_of_links n more) g.first.time ≡ true) given
  passed_more = passed_on (under (least_of_links n taken)) (under (least_of_links n more)) (rises job n taken more q (AnswerRow a) takes may) given kept.passed

  pub takes_answer : AnswersKept job n more given (put_in a waiting)
  takes_answer = record {
    in_order = in_order_more;
    passed = passed_more;
    of_job = all_put (IsAnswerOf job) a waiting may.own.0 kept.of_job;
    few = omega (arith, kept.few, length_put a waiting, length_permutation (a ∷ answers_over n taken) (answers_over n more) same_answers);
    told =
        each_on (λ k fs. length (answers_in fs) ≤ members_answered fs) n taken more q (AnswerRow a) takes
        (omega (
          arith,
          kept.told q takes.there,
          ap length (answers_push (taken q) (AnswerRow a)),
          length-append (answers_in (taken q)) (a ∷ []),
          told_push (taken q) (AnswerRow a),
          may.own.0.filled,
        ))
        kept.told;
    within =
        each_on (λ k fs. members_answered fs ≤ 2 ^ 50) n taken more q (AnswerRow a) takes
        (omega (arith, told_push (taken q) (AnswerRow a), may.own.1)) kept.within;
  }
