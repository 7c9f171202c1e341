-- Groups that the records taken up have left behind: the marks have passed them at every grouper.
use Rattle.std.proofs.Common.{ℕ, true, false, List, [], ◌∷◌, ◌≡◌, ◌≢◌, ◌⊎◌, ◌<◌, ◌+◌, ◌%◌, Option, Some, None, inl, inr, refl, sym, ap, subst, ◌∙◌, ⊎_elim, arith, map, length}
use Rattle.std.specs.Prelude.{◌==◌}
use Rattle.std.proofs.lemmas.Bool.{both_ways, cases_Bool, eqb-true, eq-eqb, lt-ltb}
use Rattle.std.proofs.lemmas.Bool.Decides.{nat_tests}
use Rattle.ds_base.specs.Copies.{Copies}
use Rattle.ds_base.specs.Fronts.{IsIn}
use Rattle.key_select.specs.Late.{mark_of}
use Rattle.node_frames.specs.declared.frame.Frame.{Frame}
use Rattle.node_frames.specs.declared.frame.Frame.TheVariants.{Item, Mark, CaptureEnd, GroupHead, Member, GroupMark, AnswerRow, Profile, CountsRow, Finish}
use Rattle.summary_spec.specs.Declaration.{Declared}
use Rattle.watermarks.specs.Least.{least_mark, under}
use Rattle.run_law.specs.Laws.{IsRun, IsPassed, AreMarksTaken, GoesOn, IsLeftBehind, LinesFollowRecords}
use Rattle.run_law.specs.Nodes.{below, began, but_last}
use Rattle.run_law.specs.Sent.{Saying, of_items, bound_after, bound_behind, bound_in}
use Rattle.run_law.specs.Shapes.{Shape}
use Rattle.run_law.specs.Snapshot.{Lists, Snapshot}
use Rattle.run_law.proofs.Ended.{none_stays, none_after_end}
use Rattle.run_law.proofs.Lists.{of_below}
use Rattle.run_law.proofs.Resting.{under_each, least_there, some_mark, nothing_is_held_back}
use Rattle.run_law.proofs.Sharded.{parser_of}

-- ---- the end of a capture

is_end : (c : ℕ) (f : Frame) → (CaptureEnd c ≡ f) ⊎ (CaptureEnd c ≢ f)
is_end c (Item s) = inr (λ e. cc)
is_end c (Mark d mark) = inr (λ e. cc)
is_end c (GroupHead first members key) = inr (λ e. cc)
is_end c (Member at vals) = inr (λ e. cc)
is_end c (GroupMark mark) = inr (λ e. cc)
is_end c (AnswerRow a) = inr (λ e. cc)
is_end c (Profile row) = inr (λ e. cc)
is_end c (CountsRow d counts) = inr (λ e. cc)
is_end c Finish = inr (λ e. cc)
is_end c (CaptureEnd d) =
    ⊎_elim
    (λ (t : (c == d) ≡ true). inl (ap CaptureEnd (eqb-true c d t)))
    (λ (f : (c == d) ≡ false). inr (λ e. both_ways (c == d) f (eq-eqb c d (same c d e))))
    (cases_Bool (c == d))
  where
    same : (c d : ℕ) → CaptureEnd c ≡ CaptureEnd d → c ≡ d
    same c d e = cc

ended_or_on : (c : ℕ) (frames : List Frame) → IsIn (CaptureEnd c) frames ⊎ (IsIn (CaptureEnd c) frames → ⊥)
ended_or_on c [] = inr (λ h. h)
ended_or_on c (f ∷ fs) =
    ⊎_elim
    (λ (e : CaptureEnd c ≡ f). inl (inl e))
    (λ (no : CaptureEnd c ≢ f). ⊎_elim
    (λ (l : IsIn (CaptureEnd c) fs). inl (inr l))
    (λ (none : IsIn (CaptureEnd c) fs → ⊥). inr (λ h. ⊎_elim no none h))
    (ended_or_on c fs))
    (is_end c f)

says_end : (c : ℕ) → of_items c (CaptureEnd c) ≡ Some None
says_end c = let own : (c == c) ≡ true = eq-eqb c c refl in rw own refl

-- the end of a capture leaves no mark of it
capture_ended : (c : ℕ) (bound : Option ℕ) (frames : List Frame) → IsIn (CaptureEnd c) frames → bound_behind (of_items c) bound frames ≡ None
capture_ended c bound [] h = absurd h
capture_ended c bound (f ∷ fs) (inl e) =
    ap (λ (z : Frame). bound_behind (of_items c) (bound_after bound (of_items c z)) fs) (sym e)
    ∙ ap (λ (o : Saying). bound_behind (of_items c) (bound_after bound o) fs) (says_end c)
    ∙ ap (λ (b : Option ℕ). bound_behind (of_items c) b fs) (none_after_end bound)
    ∙ none_stays (of_items c) fs
capture_ended c bound (f ∷ fs) (inr l) = capture_ended c (bound_after bound (of_items c f)) fs l

-- ---- marks

under_over : (mark t : ℕ) → under (Some mark) t ≡ true → t < mark
under_over mark t h = grind (arith, nat_tests)

module _ (job : Declared) (files : List (List ℕ)) (shape : Shape) (start : List ℕ) (lists : Lists) (behind : ℕ → ℕ)
    (run : IsRun job files shape) (snap : Snapshot job files shape start lists)
    (marked : AreMarksTaken job shape lists behind) (x : Copies) (past : IsLeftBehind job shape lists behind x)
    (g : ℕ) (hg : g < shape.groupers) where
  abbrev capture_bound : ℕ → Option ℕ
  capture_bound c = bound_in (of_items c) (lists.items (c % shape.parsers) g).taken

  -- the bound of a capture that goes on
  going_bound : (c : ℕ) → c < length job.captures → GoesOn shape lists g c
      → capture_bound c ≡ Some (mark_of job c (but_last (behind c) (lists.read c).records))
  going_bound c hc on =
      let own = parser_of job files shape start lists run snap c hc in
      ap (bound_in (of_items c)) (marked.taken (c % shape.parsers) g own.0 hg)
      ∙ (marked.parsers (c % shape.parsers) own.0).last g c hg own.1 on

  each_past : (c : ℕ) → c < length job.captures → under (capture_bound c) (began x + job.window) ≡ true
  each_past c hc =
      let own = parser_of job files shape start lists run snap c hc in
      ⊎_elim
      (λ (end : IsIn (CaptureEnd c) (lists.items (c % shape.parsers) g).put).
      let none : capture_bound c ≡ None = ap (bound_in (of_items c)) (marked.taken (c % shape.parsers) g own.0 hg) ∙ capture_ended c (Some 0) (lists.items (c % shape.parsers) g).put end in
      subst (λ (b : Option ℕ). under b (began x + job.window) ≡ true) (sym none) refl)
      (λ (on : GoesOn shape lists g c).
      subst (λ (b : Option ℕ). under b (began x + job.window) ≡ true) (sym (going_bound c hc on))
      (lt-ltb (began x + job.window) (mark_of job c (but_last (behind c) (lists.read c).records)) (past.over g c hg hc on)))
      (ended_or_on c (lists.items (c % shape.parsers) g).put)

  left_passed : IsPassed job shape lists g x
  left_passed =
      let there = some_mark (least_mark (map capture_bound (below (length job.captures))))
      (least_there capture_bound (length job.captures) past.one (mark_of job past.one (but_last (behind past.one) (lists.read past.one).records)) past.capture
      (going_bound past.one past.capture (past.goes_on g hg))) in
      let all : under (least_mark (map capture_bound (below (length job.captures)))) (began x + job.window) ≡ true =
      under_each capture_bound (below (length job.captures)) (began x + job.window) (λ c l. each_past c (of_below (length job.captures) c l)) in
      record {
        least = there.0;
        is = there.1;
        over = under_over there.0 (began x + job.window) (subst (λ (b : Option ℕ). under b (began x + job.window) ≡ true) there.1 all);
      }

pub lines_follow_records : LinesFollowRecords
lines_follow_records job files shape start lists behind run snap rest marked ordered h x there past =
    let passed : (g : ℕ) → g < shape.groupers → IsPassed job shape lists g x =
    λ g hg. left_passed job files shape start lists behind run snap marked x past g hg in
    nothing_is_held_back job files shape start lists run snap rest ordered h x there
    (record { one = 0; grouper = run.shape_is.groupers; passed = passed 0 run.shape_is.groupers; each = λ g hg. inl (passed g hg) })
