-- The counts of captures, one frame more.
use Rattle.std.proofs.Common.{ℕ, true, false, List, [], ◌∷◌, ◌++◌, ◌≡◌, ◌≤◌, ◌<◌, ◌%◌, ◌^◌, Option, Some, None, refl, sym, ap, subst, ◌∙◌, ⊎_elim, arith, length, set, get_or, length-set}
use Rattle.std.specs.Prelude.{◌==◌}
use Rattle.std.specs.List.{AllByRecursion}
use Rattle.std.proofs.lemmas.Bool.{cases_Bool, cases_lt, both_ways, eq-eqb, eqb-true}
use Rattle.std.proofs.lemmas.List.{get_or-set_same, get_or-set_other, take-set-le}
use Rattle.std.proofs.lemmas.Option.{same_Some}
use Rattle.ds_base.specs.Items.{Items}
use Rattle.ds_base.specs.declared.capture.Counts.{Counts}
use Rattle.ds_base.specs.declared.profile_row.ProfileRow.{ProfileRow}
use Rattle.node_frames.specs.declared.frame.Frame.{Frame}
use Rattle.node_frames.specs.declared.frame.Frame.TheVariants.{Item, Mark, CaptureEnd, GroupHead, Member, GroupMark, AnswerRow, Profile, CountsRow, Finish}
use Rattle.summary_spec.specs.Declaration.{Declared}
use Rattle.run_law.specs.Links.{MayFollow, Permits, CountsRule}
use Rattle.run_law.specs.Nodes.{capture_lines}
use Rattle.run_law.specs.Sent.{counts_in}
use Rattle.run_law.specs.Shapes.{Shape}
use Rattle.merge_state.specs.States.{CountsKept, TailIs, TakesOne}
use Rattle.merge_state.specs.declared.stage.Stage.{Stage}
use Rattle.merge_state.specs.declared.stage.Stage.TheVariants.{Answers, Rows, Captures, Ended}
use Rattle.merge_state.proofs.Links.{same_on}

-- ---- the row of a capture

-- the first that is there
abbrev earlier_of : Option Counts → Option Counts → Option Counts
earlier_of None other = other
earlier_of (Some k) other = Some k

no_later : (o : Option Counts) → earlier_of o None ≡ o
no_later None = refl
no_later (Some k) = refl

counts_push : (c : ℕ) (xs : List Frame) (f : Frame) → counts_in c (xs ++ f ∷ []) ≡ earlier_of (counts_in c xs) (counts_in c (f ∷ []))
counts_push c [] f = refl
counts_push c (CountsRow d l ∷ fs) f =
    ⊎_elim
    (λ (t : (d == c) ≡ true). rw t refl)
    (λ (u : (d == c) ≡ false). rw u (counts_push c fs f))
    (cases_Bool (d == c))
counts_push c (Item t ∷ fs) f = counts_push c fs f
counts_push c (Mark d m ∷ fs) f = counts_push c fs f
counts_push c (CaptureEnd d ∷ fs) f = counts_push c fs f
counts_push c (GroupHead first members key ∷ fs) f = counts_push c fs f
counts_push c (Member at vals ∷ fs) f = counts_push c fs f
counts_push c (GroupMark m ∷ fs) f = counts_push c fs f
counts_push c (AnswerRow a ∷ fs) f = counts_push c fs f
counts_push c (Profile row ∷ fs) f = counts_push c fs f
counts_push c (Finish ∷ fs) f = counts_push c fs f

fresh : (c : ℕ) (k : Counts) (frames : List Frame) → AllByRecursion (λ f. Permits f (CountsRow c k)) frames → counts_in c frames ≡ None
fresh c k [] h = refl
fresh c k (CountsRow d l ∷ fs) h =
    ⊎_elim
    (λ (t : (d == c) ≡ true). absurd (h.0 (eqb-true d c t)))
    (λ (u : (d == c) ≡ false). rw u (fresh c k fs h.1))
    (cases_Bool (d == c))
fresh c k (Item t ∷ fs) h = fresh c k fs h.1
fresh c k (Mark d m ∷ fs) h = fresh c k fs h.1
fresh c k (CaptureEnd d ∷ fs) h = fresh c k fs h.1
fresh c k (GroupHead first members key ∷ fs) h = fresh c k fs h.1
fresh c k (Member at vals ∷ fs) h = fresh c k fs h.1
fresh c k (GroupMark m ∷ fs) h = fresh c k fs h.1
fresh c k (AnswerRow a ∷ fs) h = fresh c k fs h.1
fresh c k (Profile row ∷ fs) h = fresh c k fs h.1
fresh c k (Finish ∷ fs) h = absurd h.0

own_row : (c : ℕ) (k : Counts) → counts_in c (CountsRow c k ∷ []) ≡ Some k
own_row c k = let same : (c == c) ≡ true = eq-eqb c c refl in rw same refl

other_row : (c d : ℕ) (k : Counts) → (d ≡ c → ⊥) → counts_in d (CountsRow c k ∷ []) ≡ None
other_row c d k other =
    ⊎_elim
    (λ (t : (c == d) ≡ true). absurd (other (sym (eqb-true c d t))))
    (λ (u : (c == d) ≡ false). rw u refl)
    (cases_Bool (c == d))

-- ---- a frame that is no row

pub counts_same : (captures parsers : ℕ) (counts more : ℕ → List Frame) (p : ℕ) (f : Frame) (came : List (Option Counts)) → 0 < parsers → TakesOne parsers counts more p f
    → ((c : ℕ) → counts_in c (f ∷ []) ≡ None) → CountsKept captures parsers counts came → CountsKept captures parsers more came
counts_same captures parsers counts more p f came some takes silent h = record {
  each = h.each;
  are = λ c less.
      let link : c % parsers < parsers = omega (arith, some) in
      let still : counts_in c (counts p ++ f ∷ []) ≡ counts_in c (counts p) =
      counts_push c (counts p) f ∙ ap (earlier_of (counts_in c (counts p))) (silent c) ∙ no_later (counts_in c (counts p)) in
      h.are c less ∙ sym (same_on (counts_in c) parsers counts more p f takes still (c % parsers) link);
  few = h.few;
}

-- ---- a row

module _ (job : Declared) (shape : Shape) (counts more : ℕ → List Frame) (p c : ℕ) (k : Counts) (came : List (Option Counts)) (some : 0 < shape.parsers)
    (takes : TakesOne shape.parsers counts more p (CountsRow c k)) (may : MayFollow (CountsRule job shape p) (counts p) (CountsRow c k))
    (h : CountsKept (length job.captures) shape.parsers counts came) where
  pub is_capture : c < length came
  is_capture = omega (arith, may.own.0.0, h.each)

  pub not_there : get_or came c None ≡ None
  not_there = h.are c may.own.0.0 ∙ ap (λ (j : ℕ). counts_in c (counts j)) may.own.0.1 ∙ fresh c k (counts p) may.permitted

  pub takes_counts : CountsKept (length job.captures) shape.parsers more (set came c (Some k))
  takes_counts = record {
    each = length-set came c (Some k) ∙ h.each;
    are = λ d less.
        ⊎_elim
        (λ (t : (d == c) ≡ true).
        let e : d ≡ c = eqb-true d c t in
        subst (λ (i : ℕ). get_or (set came c (Some k)) i None ≡ counts_in i (more (i % shape.parsers))) (sym e) here)
        (λ (u : (d == c) ≡ false).
        let other : d ≡ c → ⊥ = λ e. absurd (both_ways (d == c) u (eq-eqb d c e)) in
        let link : d % shape.parsers < shape.parsers = omega (arith, some) in
        let still : counts_in d (counts p ++ CountsRow c k ∷ []) ≡ counts_in d (counts p) =
        counts_push d (counts p) (CountsRow c k) ∙ ap (earlier_of (counts_in d (counts p))) (other_row c d k other) ∙ no_later (counts_in d (counts p)) in
        get_or-set_other came c d (Some k) None other ∙ h.are d less
        ∙ sym (same_on (counts_in d) shape.parsers counts more p (CountsRow c k) takes still (d % shape.parsers) link))
        (cases_Bool (d == c));
    few = λ d l is.
        ⊎_elim
        (λ (t : (d == c) ≡ true).
        let e : d ≡ c = eqb-true d c t in
        let own : Some k ≡ Some l = sym (get_or-set_same came c (Some k) None is_capture) ∙ subst (λ (i : ℕ). get_or (set came c (Some k)) i None ≡ Some l) e is in
        let same : k ≡ l = same_Some k l own in
        subst (λ (m : Counts). m.accepted ≤ 2 ^ 40) same (omega (arith, may.own.1.few, may.own.1.parts)))
        (λ (u : (d == c) ≡ false).
        let other : d ≡ c → ⊥ = λ e. absurd (both_ways (d == c) u (eq-eqb d c e)) in
        h.few d l (sym (get_or-set_other came c d (Some k) None other) ∙ is))
        (cases_Bool (d == c));
  }
    where
      here : get_or (set came c (Some k)) c None ≡ counts_in c (more (c % shape.parsers))
      here =
          let there : more (c % shape.parsers) ≡ counts p ++ CountsRow c k ∷ [] = ap more may.own.0.1 ∙ takes.here in
          get_or-set_same came c (Some k) None is_capture
          ∙ sym (ap (counts_in c) there ∙ counts_push c (counts p) (CountsRow c k)
          ∙ ap (λ (o : Option Counts). earlier_of o (counts_in c (CountsRow c k ∷ []))) (fresh c k (counts p) may.permitted) ∙ own_row c k)

  -- the lines that were pushed are told by the rows that were there
  pub tail_stays : (names : List (Items ℕ)) (groups : ℕ) (rows : List ProfileRow) (stage : Stage) (tail : List ℕ) → TailIs names groups rows came stage tail
      → TailIs names groups rows (set came c (Some k)) stage tail
  tail_stays names groups rows Answers tail t = t
  tail_stays names groups rows (Rows next) tail t = t
  tail_stays names groups rows (Captures next summaries) tail t =
      let behind : next ≤ c = ⊎_elim (λ (less : c < next). absurd (t.there c less not_there)) (λ (le : next ≤ c). le) (cases_lt c next) in
      let same = take-set-le next came c (Some k) behind in
      record {
        text = t.text;
        lines = t.lines;
        within = omega (arith, t.within, length-set came c (Some k));
        front = λ g later. ap (λ (xs : List (Option Counts)). capture_lines names 0 g 0 (xs ++ later)) same ∙ t.front g later;
        there = λ d less none. t.there d less (sym (get_or-set_other came c d (Some k) None (λ e. absurd (omega (arith, e, less, behind)))) ∙ none);
        few = t.few;
      }
  tail_stays names groups rows Ended tail t = absurd (t.there c is_capture not_there)
