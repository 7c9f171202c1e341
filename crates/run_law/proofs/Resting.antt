-- Answers that are still to come, and moments at which nothing is held back.
use Rattle.std.proofs.Common.{ℕ, Bool, true, false, List, [], ◌∷◌, ◌++◌, ◌≡◌, ◌⊎◌, ◌<◌, ◌≤◌, ◌+◌, ◌-◌, Option, Some, None, inl, inr, refl, sym, ap, subst, ◌∙◌, ⊎_elim, arith, map}
use Rattle.std.proofs.lemmas.Bool.{both_ways, cases_lt, lt-ltb}
use Rattle.std.proofs.lemmas.Bool.Decides.{nat_tests}
use Rattle.central_report.specs.Report.{groups}
use Rattle.ds_base.specs.Copies.{Copies}
use Rattle.ds_base.specs.Fronts.{IsIn, upto, InOrder}
use Rattle.ds_base.specs.Order.{Precedes}
use Rattle.ds_base.specs.declared.verdict.Answer.{Answer}
use Rattle.ds_base.proofs.Fronts.{parted}
use Rattle.summary_spec.specs.Declaration.{Declared}
use Rattle.watermarks.specs.Least.{lesser, least_mark, under}
use Rattle.watermarks.proofs.Lesser.{under_earlier}
use Rattle.run_law.specs.Laws.{IsRun, IsPassed, HasPutEnds, IsPassedByAll, IsAnswered, AnswersToComeAreLater, NothingIsHeldBack, answers_due}
use Rattle.run_law.specs.Nodes.{below, began, answer_of, answer_texts, answers_taken, least_of_links, AreInOrder, lines_by}
use Rattle.run_law.specs.Sent.{answers_in, of_firsts, bound_in, IsLeftOpen}
use Rattle.run_law.specs.Shapes.{Shape}
use Rattle.run_law.specs.Snapshot.{Lists, Snapshot, IsAtRest}
use Rattle.run_law.proofs.Answered.{all_answers, answers_ordered, fronts_same}
use Rattle.run_law.proofs.Bounds.{not_under, under_below, none_below}
use Rattle.run_law.proofs.Coming.{answer_came, goes}
use Rattle.run_law.proofs.Ended.{ended}
use Rattle.run_law.proofs.Ordered.{time_after}
use Rattle.run_law.proofs.Lists.{all_in, in_map, in_flat, in_below, of_below}

-- what stands in a front passes its test
passes_in : {X : Type 0} (p : X → Bool) (x : X) (xs : List X) → IsIn x (upto p xs) → p x ≡ true
passes_in {X} p x xs h = all_in (λ (z : X). p z ≡ true) x (upto p xs) (parted p xs).pass h

-- a time below a bound is less than one that is not
below_other : (bound : Option ℕ) (t u : ℕ) → under bound t ≡ true → under bound u ≡ false → t < u
below_other bound t u h k =
    ⊎_elim
    (λ (less : t < u). less)
    (λ (up : u ≤ t). absurd (both_ways (under bound u) k (under_earlier bound u t up h)))
    (cases_lt t u)

-- of a list in order all that is below a bound stands in its front
in_upto_falling : (bound : Option ℕ) (xs : List Answer) → InOrder (λ (a : Answer). a.first) xs → (a : Answer) → IsIn a xs → under bound a.first.time ≡ true
    → IsIn a (upto (λ b. under bound b.first.time) xs)
in_upto_falling bound [] h a there pass = absurd there
in_upto_falling bound (x ∷ xs) h a (inl e) pass =
    let own : under bound x.first.time ≡ true = subst (λ (b : Answer). under bound b.first.time ≡ true) e pass in
    rw own (inl e)
in_upto_falling bound (x ∷ xs) h a (inr l) pass =
    let up = time_after (λ (b : Answer). b.first) x.first a xs h.0 l in
    let own : under bound x.first.time ≡ true = under_earlier bound x.first.time a.first.time up pass in
    rw own (inr (in_upto_falling bound xs h.1 a l pass))

-- what is below each mark is below the least
under_both : (a b : Option ℕ) (t : ℕ) → under a t ≡ true → under b t ≡ true → under (lesser a b) t ≡ true
under_both None b t h k = k
under_both (Some m) None t h k = h
under_both (Some m) (Some n) t h k = grind (arith, nat_tests)

pub under_each : (f : ℕ → Option ℕ) (ks : List ℕ) (t : ℕ) → ((k : ℕ) → IsIn k ks → under (f k) t ≡ true) → under (least_mark (map f ks)) t ≡ true
under_each f [] t h = refl
under_each f (k ∷ ks) t h = under_both (f k) (least_mark (map f ks)) t (h k (inl refl)) (under_each f ks t (λ j l. h j (inr l)))

-- a least mark of marks is there
pub least_there : (f : ℕ → Option ℕ) (n : ℕ) (k mark : ℕ) → k < n → f k ≡ Some mark → least_mark (map f (below n)) ≡ None → ⊥
least_there f n k mark less e none = let no : f k ≡ None = none_below n k f less none in cc

pub some_mark : (bound : Option ℕ) → (bound ≡ None → ⊥) → (m : ℕ) × (bound ≡ Some m)
some_mark None h = absurd (h refl)
some_mark (Some m) h = (m, refl)

module _ (job : Declared) (files : List (List ℕ)) (shape : Shape) (start : List ℕ) (lists : Lists)
    (run : IsRun job files shape) (snap : Snapshot job files shape start lists) where
  -- an answer that was not taken begins no earlier than the merge's bound
  taken_or_late : (x : Copies) → IsIn x (groups job files)
      → IsIn (answer_of job x) (answers_taken shape (λ q. (lists.answers q).taken))
      ⊎ (under (least_of_links shape.processors (λ q. (lists.answers q).taken)) (began x) ≡ false)
  taken_or_late x h =
      let way = goes job files shape start lists run snap x h in
      ⊎_elim
      (λ (here : IsIn (answer_of job x) (answers_in (lists.answers way.q).taken)).
      inl (in_flat (λ q. answers_in (lists.answers q).taken) way.q (answer_of job x) (below shape.processors) (in_below shape.processors way.q way.processor) here))
      (λ (o : IsLeftOpen of_firsts (lists.answers way.q).taken (began x)).
      inr (under_below shape.processors way.q (λ q. bound_in of_firsts (lists.answers q).taken) (began x) way.processor
      (not_under of_firsts (lists.answers way.q).taken (began x) o)))
      (answer_came job files shape start lists run snap way.g way.q way.grouper way.processor x way.there)

  to_come_later : (ordered : List Answer) (a : Answer) (x : Copies) → IsIn a (answers_due shape lists ordered) → IsIn x (groups job files)
      → IsIn (answer_of job x) (answers_taken shape (λ q. (lists.answers q).taken)) ⊎ Precedes a.first (answer_of job x).first
  to_come_later ordered a x due h =
      let bound : Option ℕ = least_of_links shape.processors (λ q. (lists.answers q).taken) in
      ⊎_elim
      (λ (here : IsIn (answer_of job x) (answers_taken shape (λ q. (lists.answers q).taken))). inl here)
      (λ (late : under bound (began x) ≡ false).
      inr (inl (below_other bound a.first.time (began x) (passes_in (λ b. under bound b.first.time) a ordered due) late)))
      (taken_or_late x h)

  module _ (rest : IsAtRest job shape start lists) (x : Copies) (passed : IsPassedByAll job shape lists x) where
    abbrev grouper_bound : (q g : ℕ) → Option ℕ
    grouper_bound q g = bound_in of_firsts (lists.groups g q).taken

    -- the bound of a grouper that the marks have passed
    passed_bound : (q g : ℕ) → q < shape.processors → g < shape.groupers → (at : IsPassed job shape lists g x)
        → grouper_bound q g ≡ Some (at.least - job.window)
    passed_bound q g hq hg at = ap (bound_in of_firsts) (rest.groups_taken g q hg hq) ∙ (rest.groupers g hg).marks q at.least hq at.is

    -- the bound of each grouper is above the group
    above : (q g : ℕ) → q < shape.processors → g < shape.groupers → under (grouper_bound q g) (began x) ≡ true
    above q g hq hg =
        ⊎_elim
        (λ (at : IsPassed job shape lists g x). mark_over (grouper_bound q g) at.least job.window (began x) (passed_bound q g hq hg at) at.over)
        (λ (ends : HasPutEnds shape lists g).
        let none : grouper_bound q g ≡ None = ap (bound_in of_firsts) (rest.groups_taken g q hg hq) ∙ ended of_firsts (Some 0) (lists.groups g q).put refl (ends q hq) in
        subst (λ (b : Option ℕ). under b (began x) ≡ true) (sym none) refl)
        (passed.each g hg)
      where
        mark_over : (bound : Option ℕ) (least window t : ℕ) → bound ≡ Some (least - window) → t + window < least → under bound t ≡ true
        mark_over bound least window t e over =
            let less : t < least - window = omega arith in
            subst (λ (b : Option ℕ). under b t ≡ true) (sym e) (lt-ltb t (least - window) less)

    -- the bound of each processor is a mark above the group
    processor_bound : (q : ℕ) → q < shape.processors → (m : ℕ) × (bound_in of_firsts (lists.answers q).taken ≡ Some m) × (under (Some m) (began x) ≡ true)
    processor_bound q hq =
        let f : ℕ → Option ℕ = grouper_bound q in
        let there = some_mark (least_mark (map f (below shape.groupers)))
        (least_there f shape.groupers passed.one (passed.passed.least - job.window) passed.grouper (passed_bound q passed.one hq passed.grouper passed.passed)) in
        let under_all : under (least_mark (map f (below shape.groupers))) (began x) ≡ true =
        under_each f (below shape.groupers) (began x) (λ g l. above q g hq (of_below shape.groupers g l)) in (
          there.0,
          ap (bound_in of_firsts) (rest.answers_taken q hq) ∙ (rest.processors q hq).marks there.0 there.1,
          subst (λ (b : Option ℕ). under b (began x) ≡ true) there.1 under_all,
        )

    held_nothing : (ordered : List Answer) → AreInOrder (answers_taken shape (λ q. (lists.answers q).taken)) ordered → IsIn x (groups job files)
        → IsAnswered job shape start lists ordered x
    held_nothing ordered h there =
        let f : ℕ → Option ℕ = λ q. bound_in of_firsts (lists.answers q).taken in
        let bound : Option ℕ = least_of_links shape.processors (λ q. (lists.answers q).taken) in
        let each : (q : ℕ) → IsIn q (below shape.processors) → under (f q) (began x) ≡ true =
        λ q l. let b = processor_bound q (of_below shape.processors q l) in
        subst (λ (m : Option ℕ). under m (began x) ≡ true) (sym b.1) b.2 in
        let pass : under bound (began x) ≡ true = under_each f (below shape.processors) (began x) each in
        let first = processor_bound 0 run.shape_is.processors in
        let mark = some_mark bound (least_there f shape.processors 0 first.0 run.shape_is.processors first.1) in
        let all : List Answer = all_answers job files shape start lists run snap in (
          subst (λ as'. IsIn (answer_of job x) as') (sym (fronts_same job files shape start lists run snap ordered h))
              (in_upto_falling bound all (answers_ordered job files shape start lists run snap) (answer_of job x) (in_map (answer_of job) x (groups job files) there) pass),
          rest.merge ordered h
              ∙ ap (λ (b : Option ℕ). start ++ lines_by job shape b (λ p. (lists.counts p).taken) (λ q. (lists.answers q).taken) ordered) mark.1
              ∙ ap (λ (b : Option ℕ). start ++ answer_texts job (upto (λ a. under b a.first.time) ordered)) (sym mark.1),
        )

pub answers_to_come_are_later : AnswersToComeAreLater
answers_to_come_are_later job files shape start lists run snap ordered h a x due there = to_come_later job files shape start lists run snap ordered a x due there

pub nothing_is_held_back : NothingIsHeldBack
nothing_is_held_back job files shape start lists run snap rest ordered h x there passed =
    held_nothing job files shape start lists run snap rest x passed ordered h there
