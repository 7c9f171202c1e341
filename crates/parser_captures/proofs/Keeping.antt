-- A parser that reads on: its promise after each step, over plain lists.
use Rattle.std.proofs.Common.{ℕ, Bool, true, false, List, [], ◌∷◌, ◌++◌, ◌≡◌, ◌≢◌, ◌<◌, ◌≤◌, Option, Some, None, inl, inr, refl, sym, ap, subst, ◌∙◌, arith, ⊎_elim, length, suc, ◌+◌, append_assoc}
use Rattle.std.specs.Prelude.{filter, ◌==◌, ◌⊎◌, option_to_list, ◌^◌}
use Rattle.std.specs.List.{AllByRecursion}
use Rattle.std.proofs.lemmas.Bool.{cases_Bool, eqb-true, eq-eqb}
use Rattle.std.proofs.lemmas.List.{append-nil, append_cancel_left}
use Rattle.std.proofs.lemmas.List.Elements.{filter-append}
use Rattle.ds_base.specs.Fronts.{IsIn}
use Rattle.ds_base.specs.declared.capture.Counts.{Counts}
use Rattle.ds_base.specs.declared.summary.Summary.{Summary}
use Rattle.key_select.specs.Fates.{accepted_of, accepted_after, counts_of}
use Rattle.key_select.specs.Late.{mark_of}
use Rattle.key_select.specs.Laws.{IsFromMark}
use Rattle.key_select.specs.Wanted.{wanted_of, good_of}
use Rattle.key_select.proofs.Marks.{later_from_mark}
use Rattle.key_select.proofs.Tallying.{accepted_parts}
use Rattle.node_frames.specs.declared.frame.Frame.{Frame}
use Rattle.node_frames.specs.declared.frame.Frame.TheVariants.{Item, Mark, CaptureEnd, GroupHead, Member, GroupMark, AnswerRow, Profile, CountsRow, Finish}
use Rattle.pcap_reader.specs.Captured.{Captured}
use Rattle.pcap_reader.specs.Lent.{AreFirst}
use Rattle.summary_spec.specs.Declaration.{Declared}
use Rattle.run_law.specs.Links.{Permits, MayFollow, AreLawful, ItemRule, CountsRule, IsItemOf, AreLawfulItems}
use Rattle.run_law.specs.Nodes.{Reading, IsWhole, IsMarkOf, ParserKeeps}
use Rattle.run_law.specs.Sent.{items_in, item_in}
use Rattle.run_law.specs.Shapes.{Shape, IsCaptureOf, IsFront, is_of_shard, of_capture, summaries_of_shard}
use Rattle.run_law.proofs.Lists.{all_in, in_all, in_right, in_left, in_either, in_filter, of_filter, in_front, in_flat, flat-append}
use Rattle.run_law.proofs.Parsed.{of_one_capture}
use Rattle.run_law.proofs.Standing.{stands}
use Rattle.parser_captures.proofs.Taking.{untold}

-- two numbers are equal or not
pub same_or_not : (a b : ℕ) → (a ≡ b) ⊎ (a ≢ b)
same_or_not a b = ⊎_elim (λ (t : (a == b) ≡ true). inl (eqb-true a b t)) (λ (f : (a == b) ≡ false). inr (λ e. untold ⊥ (sym f ∙ eq-eqb a b e))) (cases_Bool (a == b))

pub differ_eqb : (a b : ℕ) → a ≢ b → (a == b) ≡ false
differ_eqb a b h = ⊎_elim (λ (t : (a == b) ≡ true). absurd (h (eqb-true a b t))) (λ (f : (a == b) ≡ false). f) (cases_Bool (a == b))

-- what is accepted of two parts behind others
after_parts : (job : Declared) (c : ℕ) (front rs later : List Captured)
    → accepted_after job c front (rs ++ later) ≡ accepted_after job c front rs ++ accepted_after job c (front ++ rs) later
after_parts job c front rs later =
    append_cancel_left (accepted_of job c front) (accepted_after job c front (rs ++ later)) (accepted_after job c front rs ++ accepted_after job c (front ++ rs) later)
    (sym (accepted_parts job c front (rs ++ later))
    ∙ ap (accepted_of job c) (sym (append_assoc front rs later))
    ∙ accepted_parts job c (front ++ rs) later
    ∙ ap (λ ss. ss ++ accepted_after job c (front ++ rs) later) (accepted_parts job c front rs)
    ∙ append_assoc (accepted_of job c front) (accepted_after job c front rs) (accepted_after job c (front ++ rs) later))

-- what is permitted behind frames, frame by frame, where none is a Finish
module _ (job : Declared) (shape : Shape) (p : ℕ) (read : ℕ → Reading) (items : ℕ → List Frame) (counts : List Frame)
    (kept : ParserKeeps job shape p read items counts) (c : ℕ) (own : IsCaptureOf (length job.captures) shape p c) (going : (read c).ended ≡ false) where
  -- while a capture goes on, its end was put on no link
  pub no_end : (g : ℕ) → g < shape.groupers → IsIn (CaptureEnd c) (items g) → ⊥
  no_end g below h = untold ⊥ (sym going ∙ (kept.ends g c below h).ended)

  pub no_finish : (g : ℕ) → g < shape.groupers → IsIn Finish (items g) → ⊥
  no_finish g below h =
      let at = stands (ItemRule job shape p g) (items g) Finish (kept.lawful g below) h in
      no_end g below (in_front (CaptureEnd c) at.before (items g) at.front (at.own c own))

  pub no_row : (k : Counts) → IsIn (CountsRow c k) counts → ⊥
  no_row k h = untold ⊥ (sym going ∙ (kept.rows c k h).0.ended)

  pub no_counts_finish : IsIn Finish counts → ⊥
  no_counts_finish h =
      let at = stands (CountsRule job shape p) counts Finish kept.lawful_counts h in
      let row = at.own c own in
      no_row row.0 (in_front (CountsRow c row.0) at.before counts at.front row.1)

  -- a mark that was put is no later than what is accepted of later records
  past_mark : (g mark : ℕ) (later : List Captured) (s : Summary) → g < shape.groupers → IsIn (Mark c mark) (items g)
      → IsIn s (accepted_after job c (read c).records later) → mark ≤ s.at.time
  past_mark g mark later s below put h =
      let m = kept.marks g c mark below put in
      let there : IsIn s (accepted_after job c m.front (m.taken.rest ++ later)) =
      subst (λ ss. IsIn s ss) (sym (after_parts job c m.front m.taken.rest later))
      (in_right s (accepted_after job c m.front m.taken.rest) (accepted_after job c (m.front ++ m.taken.rest) later)
      (subst (λ rs. IsIn s (accepted_after job c rs later)) m.taken.joined h)) in
      let from = all_in (IsFromMark c (mark_of job c m.front)) s (accepted_after job c m.front (m.taken.rest ++ later))
      (later_from_mark job c m.front (m.taken.rest ++ later)) there in
      subst (λ (n : ℕ). n ≤ s.at.time) (sym m.is) from.1

  -- ---- an Item

  module _ (later : List Captured) (s : Summary) (accepted : IsIn s (accepted_after job c (read c).records later)) (of_it : s.at.capture ≡ c)
      (numbered : (t : Summary) → IsIn t (accepted_of job c (read c).records) → t.at.number < s.at.number) where
    -- a summary of the capture that was put is one that was accepted
    was_accepted : (g : ℕ) (t : Summary) → g < shape.groupers → IsIn (Item t) (items g) → t.at.capture ≡ c → IsIn t (accepted_of job c (read c).records)
    was_accepted g t below h e =
        let put : IsIn t (items_in (items g)) = in_flat item_in (Item t) t (items g) h (inl refl) in
        let there : IsIn t (of_capture c (items_in (items g))) = in_filter (λ (x : Summary). x.at.capture == c) t (items_in (items g)) (eq-eqb t.at.capture c e) put in
        (of_filter (λ (x : Summary). is_of_shard g shape.groupers x.key) t (accepted_of job c (read c).records)
        (subst (λ ss. IsIn t ss) (kept.summaries g c below own) there)).0

    permits : (g : ℕ) (f : Frame) → g < shape.groupers → IsIn f (items g) → Permits f (Item s)
    permits g (Item t) below h = λ e. numbered t (was_accepted g t below h (e ∙ of_it))
    permits g (Mark d mark) below h = λ e. past_mark g mark later s below (subst (λ (k : ℕ). IsIn (Mark k mark) (items g)) (e ∙ of_it) h) accepted
    permits g (CaptureEnd d) below h = λ e. no_end g below (subst (λ (k : ℕ). IsIn (CaptureEnd k) (items g)) (e ∙ of_it) h)
    permits g (GroupHead first members key) below h = tt
    permits g (Member at vals) below h = tt
    permits g (GroupMark mark) below h = tt
    permits g (AnswerRow a) below h = tt
    permits g (Profile row) below h = tt
    permits g (CountsRow d k) below h = tt
    permits g Finish below h = absurd (no_finish g below h)

    pub item_follows : (g : ℕ) → g < shape.groupers → IsItemOf job shape p g s → MayFollow (ItemRule job shape p g) (items g) (Item s)
    item_follows g below is = record { own = is; permitted = in_all (λ f. Permits f (Item s)) (items g) (λ f h. permits g f below h) }
