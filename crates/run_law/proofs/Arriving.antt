-- What a processor promises stands as more frames are taken.
use Rattle.std.proofs.Common.{ℕ, true, false, List, [], ◌∷◌, ◌++◌, ◌≡◌, ◌<◌, Option, Some, None, inl, inr, refl, sym, ap, subst, ◌∙◌, ⊎_elim, arith}
use Rattle.std.specs.Prelude.{◌==◌}
use Rattle.std.specs.List.{AllByRecursion}
use Rattle.std.proofs.lemmas.Bool.{eq-eqb}
use Rattle.std.proofs.lemmas.List.{append-nil, append_cancel_left, map-append}
use Rattle.ds_base.specs.Copies.{Copies}
use Rattle.ds_base.specs.Fronts.{IsIn}
use Rattle.ds_base.specs.declared.profile_row.ProfileRow.{ProfileRow}
use Rattle.node_frames.specs.declared.frame.Frame.{Frame}
use Rattle.node_frames.specs.declared.frame.Frame.TheVariants.{Item, Mark, CaptureEnd, GroupHead, Member, GroupMark, AnswerRow, Profile, CountsRow, Finish}
use Rattle.summary_spec.specs.Declaration.{Declared}
use Rattle.watermarks.specs.Least.{under}
use Rattle.run_law.specs.Laws.{TakesMoreGroups, ProcessorKeepsOn}
use Rattle.run_law.specs.Links.{AreLawfulBehind, GroupRule}
use Rattle.run_law.specs.Nodes.{below, began, answer_of, answers_of, groups_arrived, least_of_links, IsAskedProfile, HasAnsweredAll, ProcessorKeeps}
use Rattle.run_law.specs.Sent.{answers_in, rows_in, groups_in, of_firsts, bound_in}
use Rattle.run_law.specs.Shapes.{Shape, IsFront, with_number}
use Rattle.run_law.proofs.Bounds.{not_under, under_below, mark_from}
use Rattle.run_law.proofs.Lists.{all_in, in_either, of_map, of_below, in_number, number-append, front_trans}
use Rattle.run_law.proofs.More.{bound-append, bound_rises, least_rises, mark_rises, none_rises}
use Rattle.run_law.proofs.Standing.{groups_cut, group_mark_left_open, lawful_rest, whole_with_end}
use Rattle.run_law.proofs.Starting.{none_front}
use Rattle.run_law.proofs.Written.{ended_links}

all_joined : {X : Type 0} (P : X → Type 0) (xs ys : List X) → AllByRecursion P xs → AllByRecursion P ys → AllByRecursion P (xs ++ ys)
all_joined P [] ys h k = k
all_joined P (x ∷ xs) ys h k = (h.0, all_joined P xs ys h.1 k)

-- items none of which has a number
none_numbered : {X : Type 0} (n : ℕ) (es : List (ℕ × X)) → AllByRecursion (λ (e : ℕ × X). e.0 < n) es → ((g : ℕ) → g < n → with_number g es ≡ []) → es ≡ []
none_numbered n [] h none = refl
none_numbered {X} n (e ∷ es) h none =
    let own : with_number e.0 (e ∷ es) ≡ [] = none e.0 h.0 in
    let t : (e.0 == e.0) ≡ true = eq-eqb e.0 e.0 refl in
    let some : e.1 ∷ with_number e.0 es ≡ [] = rw t at own in
    absurd (cc)

-- frames without a row of the profile
no_rows : (frames : List Frame) → ((row : ProfileRow) → IsIn (Profile row) frames → ⊥) → rows_in frames ≡ []
no_rows [] none = refl
no_rows (Profile row ∷ fs) none = absurd (none row (inl refl))
no_rows (Item s ∷ fs) none = no_rows fs (λ r l. none r (inr l))
no_rows (Mark c m ∷ fs) none = no_rows fs (λ r l. none r (inr l))
no_rows (CaptureEnd c ∷ fs) none = no_rows fs (λ r l. none r (inr l))
no_rows (GroupHead first members key ∷ fs) none = no_rows fs (λ r l. none r (inr l))
no_rows (Member at vals ∷ fs) none = no_rows fs (λ r l. none r (inr l))
no_rows (GroupMark m ∷ fs) none = no_rows fs (λ r l. none r (inr l))
no_rows (AnswerRow a ∷ fs) none = no_rows fs (λ r l. none r (inr l))
no_rows (CountsRow c k ∷ fs) none = no_rows fs (λ r l. none r (inr l))
no_rows (Finish ∷ fs) none = no_rows fs (λ r l. none r (inr l))

module _ (job : Declared) (shape : Shape) (taken more : ℕ → List Frame) (later : List (ℕ × Copies)) (takes : TakesMoreGroups job shape taken more later) where
  rest_lawful : (g : ℕ) → (hg : g < shape.groupers) → AreLawfulBehind (GroupRule job) (taken g) (takes.front g hg).rest
  rest_lawful g hg = lawful_rest (GroupRule job) (taken g) (more g) (takes.front g hg) (takes.lawful g hg)

  -- the least mark does not fall
  rises : (t : ℕ) → under (least_of_links shape.groupers taken) t ≡ true → under (least_of_links shape.groupers more) t ≡ true
  rises t pass =
      least_rises (λ g. bound_in of_firsts (taken g)) (λ g. bound_in of_firsts (more g)) (below shape.groupers) t
      (λ g l h.
      let hg : g < shape.groupers = of_below shape.groupers g l in
      let f = takes.front g hg in
      subst (λ fs. under (bound_in of_firsts fs) t ≡ true) (sym f.joined)
      (subst (λ (b : Option ℕ). under b t ≡ true) (sym (bound-append of_firsts (Some 0) (taken g) f.rest))
      (bound_rises (GroupRule job) of_firsts (taken g) f.rest (bound_in of_firsts (taken g)) t refl (rest_lawful g hg) group_mark_left_open h)))
      pass

  -- a group that became whole is left open by what was taken before on its link
  late : (g : ℕ) → (hg : g < shape.groupers) → (x : Copies) → IsIn x (with_number g later) → under (least_of_links shape.groupers taken) (began x) ≡ false
  late g hg x h =
      let cut = groups_cut job (taken g) (more g) (takes.front g hg) (takes.lawful g hg) in
      let same : with_number g later ≡ cut.later = append_cancel_left (groups_in (taken g)) (with_number g later) cut.later (sym (takes.groups g hg) ∙ cut.joined) in
      under_below shape.groupers g (λ k. bound_in of_firsts (taken k)) (began x) hg
      (not_under of_firsts (taken g) (began x) (cut.left_open x (subst (λ xs. IsIn x xs) same h)))

  -- where every link had finished, nothing came
  nothing_later : least_of_links shape.groupers taken ≡ None → later ≡ []
  nothing_later none =
      none_numbered shape.groupers later takes.of_groupers (λ g hg.
      let same : taken g ≡ more g =
      whole_with_end (GroupRule job) (taken g) (more g) (takes.front g hg) (takes.lawful g hg) (ended_links shape.groupers taken g hg none) in
      append_cancel_left (groups_in (taken g)) (with_number g later) []
      (sym (takes.groups g hg) ∙ ap groups_in (sym same) ∙ sym (append-nil (groups_in (taken g)))))

  arrived_more : (arrived : List (ℕ × Copies)) → groups_arrived (arrived ++ later) ≡ groups_arrived arrived ++ groups_arrived later
  arrived_more arrived = map-append (λ (e : ℕ × Copies). e.1) arrived later

  arrived_same : (arrived : List (ℕ × Copies)) → later ≡ [] → groups_arrived (arrived ++ later) ≡ groups_arrived arrived
  arrived_same arrived none = ap (λ (es : List (ℕ × Copies)). groups_arrived (arrived ++ es)) none ∙ ap groups_arrived (append-nil arrived)

  all_answered : (arrived : List (ℕ × Copies)) (put : List Frame) → HasAnsweredAll job shape arrived taken put → HasAnsweredAll job shape (arrived ++ later) more put
  all_answered arrived put h = record {
    finished = none_rises (least_of_links shape.groupers taken) (least_of_links shape.groupers more) rises h.finished;
    answers = h.answers ∙ ap (answers_of job) (sym (arrived_same arrived (nothing_later h.finished)));
  }

  pub keeps_on : (put : List Frame) → ProcessorKeeps job shape taken put → ProcessorKeeps job shape more put
  keeps_on put kept = record {
    lawful = kept.lawful;
    arrived = kept.arrived ++ later;
    of_groupers = all_joined (λ (e : ℕ × Copies). e.0 < shape.groupers) kept.arrived later kept.of_groupers takes.of_groupers;
    from_links = λ g hg. number-append g kept.arrived later ∙ ap (λ xs. xs ++ with_number g later) (kept.from_links g hg) ∙ sym (takes.groups g hg);
    answers = front_trans (answers_in put) (answers_of job (groups_arrived kept.arrived)) (answers_of job (groups_arrived (kept.arrived ++ later))) kept.answers
        (record {
          rest = answers_of job (groups_arrived later);
          joined = ap (answers_of job) (arrived_more kept.arrived) ∙ map-append (answer_of job) (groups_arrived kept.arrived) (groups_arrived later);
        });
    marks = λ mark least there e.
        let l = mark_rises (least_of_links shape.groupers taken) (least_of_links shape.groupers more) least rises e in
        let old = kept.marks mark l.0 there l.1 in
        let le = l.2 in
        omega (arith, old, le);
    answered = λ mark x there came less.
        ⊎_elim
        (λ (early : IsIn x (groups_arrived kept.arrived)). kept.answered mark x there early less)
        (λ (now : IsIn x (groups_arrived later)).
        let from = of_map (λ (e : ℕ × Copies). e.1) x later now in
        let e = from.item in
        let hg : e.0 < shape.groupers = all_in (λ (d : ℕ × Copies). d.0 < shape.groupers) e later takes.of_groupers from.there in
        let own : IsIn e.1 (with_number e.0 later) = in_number e.0 e.1 later from.there in
        let mine : IsIn x (with_number e.0 later) = subst (λ (y : Copies). IsIn y (with_number e.0 later)) (sym from.is) own in
        let m = mark_from (least_of_links shape.groupers taken) (began x) (late e.0 hg x mine) in
        let low = kept.marks mark m.mark there m.is in
        absurd (omega (arith, low, m.low, less)))
        (in_either x (groups_arrived kept.arrived) (groups_arrived later) (subst (λ xs. IsIn x xs) (arrived_more kept.arrived) came));
    profile = λ row there. all_answered kept.arrived put (kept.profile row there);
    profile_front = λ rows none asked. by_old (least_of_links shape.groupers taken) refl rows asked;
    finish = λ there.
        let old = kept.finish there in (
          all_answered kept.arrived put old.0,
          subst (λ xs. IsAskedProfile job.profile xs (rows_in put)) (sym (arrived_same kept.arrived (nothing_later old.0.finished))) old.1,
        );
  }
    where
      by_old : (old : Option ℕ) → least_of_links shape.groupers taken ≡ old → (rows : List ProfileRow)
          → IsAskedProfile job.profile (groups_arrived (kept.arrived ++ later)) rows → IsFront (rows_in put) rows
      by_old None e rows asked =
          kept.profile_front rows e (subst (λ xs. IsAskedProfile job.profile xs rows) (arrived_same kept.arrived (nothing_later e)) asked)
      by_old (Some m) e rows asked =
          let none : rows_in put ≡ [] = no_rows put (λ row there. let finished = (kept.profile row there).finished in cc) in
          subst (λ (rs : List ProfileRow). IsFront rs rows) (sym none) (none_front rows)

pub processor_keeps_on : ProcessorKeepsOn
processor_keeps_on job shape taken more later put takes kept = keeps_on job shape taken more later takes put kept
