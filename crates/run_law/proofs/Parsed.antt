-- What parsers put: of each accepted summary, that it came or may still come.
use Rattle.std.proofs.Common.{ℕ, true, false, List, [], ◌++◌, ◌≡◌, ◌⊎◌, ◌<◌, ◌≤◌, inl, inr, sym, ap, subst, ◌∙◌, ⊎_elim, append_assoc, length}
use Rattle.std.specs.Prelude.{◌==◌}
use Rattle.std.proofs.lemmas.Bool.{cases_Bool, eqb-true, eq-eqb}
use Rattle.std.proofs.lemmas.List.{append-nil, append_cancel_left}
use Rattle.ds_base.specs.Fronts.{IsIn}
use Rattle.ds_base.specs.declared.summary.Summary.{Summary}
use Rattle.key_select.specs.Fates.{accepted_of, accepted_after}
use Rattle.key_select.specs.Late.{mark_of}
use Rattle.key_select.specs.Laws.{IsFromMark}
use Rattle.key_select.proofs.Marks.{later_from_mark}
use Rattle.key_select.proofs.Tallying.{accepted_parts}
use Rattle.node_frames.specs.declared.frame.Frame.{Frame}
use Rattle.node_frames.specs.declared.frame.Frame.TheVariants.{Item, Mark, CaptureEnd, GroupHead, Member, GroupMark, AnswerRow, Profile, CountsRow, Finish}
use Rattle.pcap_reader.specs.Captured.{Captured}
use Rattle.key_select.specs.Wanted.{good_of}
use Rattle.summary_spec.specs.Declaration.{Declared}
use Rattle.run_law.specs.Links.{ItemRule}
use Rattle.run_law.specs.Nodes.{Reading, IsWhole, ParserKeeps}
use Rattle.run_law.specs.Sent.{item_in, items_in, of_items, MayCome, IsLeftOpen}
use Rattle.run_law.specs.Shapes.{Shape, IsCaptureOf, IsFront, of_capture, is_of_shard, summaries_of_shard}
use Rattle.run_law.specs.Snapshot.{IsRead}
use Rattle.run_law.proofs.Lists.{all_in, in_all, in_right, in_left, in_either, in_filter, of_filter, in_front, flat-append, all_left}
use Rattle.run_law.proofs.Standing.{stands, lawful_rest, item_left_open}

-- the records of the file are those that were taken up, and later ones
pub record HasRecords (job : Declared) (capture : ℕ) (reading : Reading) (file : List ℕ) : Type 0 where
  pub later : List Captured
  pub is : (good_of job capture file).records ≡ reading.records ++ later

-- what is accepted of a capture is of this capture
pub of_one_capture : (job : Declared) (c : ℕ) (rs : List Captured) (s : Summary) → IsIn s (accepted_of job c rs) → s.at.capture ≡ c
of_one_capture job c rs s h = (all_in (IsFromMark c (mark_of job c [])) s (accepted_of job c rs) (later_from_mark job c [] rs) h).0

-- what is accepted of two parts behind others
after_parts : (job : Declared) (c : ℕ) (front rs later : List Captured)
    → accepted_after job c front (rs ++ later) ≡ accepted_after job c front rs ++ accepted_after job c (front ++ rs) later
after_parts job c front rs later =
    append_cancel_left (accepted_of job c front) (accepted_after job c front (rs ++ later)) (accepted_after job c front rs ++ accepted_after job c (front ++ rs) later)
    (sym (accepted_parts job c front (rs ++ later))
    ∙ ap (accepted_of job c) (sym (append_assoc front rs later))
    ∙ accepted_parts job c (front ++ rs) later
    ∙ ap (λ ss. ss ++ accepted_after job c (front ++ rs) later) (accepted_parts job c front rs)
    ∙ append_assoc (accepted_of job c front) (accepted_after job c front rs) (accepted_after job c (front ++ rs) later))

module _ (job : Declared) (shape : Shape) (p g : ℕ) (read : ℕ → Reading) (items : ℕ → List Frame) (counts : List Frame)
    (kept : ParserKeeps job shape p read items counts) (below : g < shape.groupers) where
  -- a mark that was put is no later than what is accepted of later records
  past_mark : (c mark : ℕ) (later : List Captured) (s : Summary) → IsIn (Mark c mark) (items g) → IsIn s (accepted_after job c (read c).records later)
      → mark ≤ s.at.time
  past_mark c mark later s put h =
      let m = kept.marks g c mark below put in
      let there : IsIn s (accepted_after job c m.front (m.taken.rest ++ later)) =
      subst (λ ss. IsIn s ss) (sym (after_parts job c m.front m.taken.rest later))
      (in_right s (accepted_after job c m.front m.taken.rest) (accepted_after job c (m.front ++ m.taken.rest) later)
      (subst (λ rs. IsIn s (accepted_after job c rs later)) m.taken.joined h)) in
      let from = all_in (IsFromMark c (mark_of job c m.front)) s (accepted_after job c m.front (m.taken.rest ++ later))
      (later_from_mark job c m.front (m.taken.rest ++ later)) there in
      subst (λ (n : ℕ). n ≤ s.at.time) (sym m.is) from.1

  -- once the capture's end was put, its file has no later records
  pub none_later : (c : ℕ) (file : List ℕ) (has : HasRecords job c (read c) file) → IsRead (read c) file → IsWhole job c (read c) → has.later ≡ []
  none_later c file has is_read whole =
      let same : (good_of job c file).records ≡ (read c).records =
      ap (λ (bytes : List ℕ). (good_of job c bytes).records) (sym (is_read.whole whole.ended)) ∙ whole.records in
      append_cancel_left (read c).records has.later [] (sym has.is ∙ same ∙ sym (append-nil (read c).records))

  frame_leaves : (c : ℕ) (file : List ℕ) (has : HasRecords job c (read c) file) (s : Summary) (f : Frame) → IsRead (read c) file
      → IsCaptureOf (length job.captures) shape p c
      → IsIn s (accepted_after job c (read c).records has.later) → IsIn f (items g) → MayCome (of_items c f) s.at.time
  frame_leaves c file has s (Item t) is_read own h put = tt
  frame_leaves c file has s (Mark d mark) is_read own h put =
      ⊎_elim
      (λ (t : (d == c) ≡ true).
      rw t (past_mark c mark has.later s (subst (λ (k : ℕ). IsIn (Mark k mark) (items g)) (eqb-true d c t) put) h))
      (λ (f : (d == c) ≡ false). rw f tt)
      (cases_Bool (d == c))
  frame_leaves c file has s (CaptureEnd d) is_read own h put =
      ⊎_elim
      (λ (t : (d == c) ≡ true).
      let whole : IsWhole job c (read c) = kept.ends g c below (subst (λ (k : ℕ). IsIn (CaptureEnd k) (items g)) (eqb-true d c t) put) in
      absurd (subst (λ rs. IsIn s (accepted_after job c (read c).records rs)) (none_later c file has is_read whole) h))
      (λ (f : (d == c) ≡ false). rw f tt)
      (cases_Bool (d == c))
  frame_leaves c file has s (GroupHead first members key) is_read own h put = tt
  frame_leaves c file has s (Member at vals) is_read own h put = tt
  frame_leaves c file has s (GroupMark mark) is_read own h put = tt
  frame_leaves c file has s (AnswerRow a) is_read own h put = tt
  frame_leaves c file has s (Profile row) is_read own h put = tt
  frame_leaves c file has s (CountsRow d k) is_read own h put = tt
  frame_leaves c file has s Finish is_read own h put =
      let end = stands (ItemRule job shape p g) (items g) Finish (kept.lawful g below) put in
      let whole : IsWhole job c (read c) = kept.ends g c below (in_front (CaptureEnd c) end.before (items g) end.front (end.own c own)) in
      absurd (subst (λ rs. IsIn s (accepted_after job c (read c).records rs)) (none_later c file has is_read whole) h)

  -- each accepted summary of the shard was put, or every frame that was put leaves it open
  put_or_open : (c : ℕ) (file : List ℕ) (has : HasRecords job c (read c) file) (s : Summary) → IsRead (read c) file
      → IsCaptureOf (length job.captures) shape p c → IsIn s (accepted_of job c (good_of job c file).records) → is_of_shard g shape.groupers s.key ≡ true
      → IsIn s (items_in (items g)) ⊎ IsLeftOpen (of_items c) (items g) s.at.time
  put_or_open c file has s is_read own h shard =
      let split : IsIn s (accepted_of job c (read c).records ++ accepted_after job c (read c).records has.later) =
      subst (λ ss. IsIn s ss) (ap (accepted_of job c) has.is ∙ accepted_parts job c (read c).records has.later) h in
      ⊎_elim
      (λ (here : IsIn s (accepted_of job c (read c).records)).
      let there : IsIn s (of_capture c (items_in (items g))) =
      subst (λ ss. IsIn s ss) (sym (kept.summaries g c below own))
      (in_filter (λ (z : Summary). is_of_shard g shape.groupers z.key) s (accepted_of job c (read c).records) shard here) in
      inl (of_filter (λ (z : Summary). z.at.capture == c) s (items_in (items g)) there).0)
      (λ (later : IsIn s (accepted_after job c (read c).records has.later)).
      inr (in_all (λ f. MayCome (of_items c f) s.at.time) (items g) (λ f put. frame_leaves c file has s f is_read own later put)))
      (in_either s (accepted_of job c (read c).records) (accepted_after job c (read c).records has.later) split)

  -- the same of a front that was taken
  pub taken_or_open : (taken : List Frame) (c : ℕ) (file : List ℕ) (has : HasRecords job c (read c) file) (s : Summary) → IsFront taken (items g) → IsRead (read c) file
      → IsCaptureOf (length job.captures) shape p c → IsIn s (accepted_of job c (good_of job c file).records) → is_of_shard g shape.groupers s.key ≡ true
      → IsIn s (items_in taken) ⊎ IsLeftOpen (of_items c) taken s.at.time
  taken_or_open taken c file has s f is_read own h shard =
      let mine : s.at.capture ≡ c = of_one_capture job c (good_of job c file).records s h in
      ⊎_elim
      (λ (put : IsIn s (items_in (items g))).
      let split : IsIn s (items_in taken ++ items_in f.rest) =
      subst (λ ss. IsIn s ss) (ap items_in f.joined ∙ flat-append item_in taken f.rest) put in
      ⊎_elim
      (λ (here : IsIn s (items_in taken)). inl here)
      (λ (later : IsIn s (items_in f.rest)).
      inr (subst (λ (k : ℕ). IsLeftOpen (of_items k) taken s.at.time) mine
      (item_left_open (ItemRule job shape p g) taken f.rest s (lawful_rest (ItemRule job shape p g) taken (items g) f (kept.lawful g below)) later)))
      (in_either s (items_in taken) (items_in f.rest) split))
      (λ (open_still : IsLeftOpen (of_items c) (items g) s.at.time).
      inr (all_left (λ z. MayCome (of_items c z) s.at.time) taken f.rest (subst (λ zs. IsLeftOpen (of_items c) zs s.at.time) f.joined open_still)))
      (put_or_open c file has s is_read own h shard)

  -- what was put is accepted of the file, and of the shard
  pub put_is_accepted : (c : ℕ) (file : List ℕ) (has : HasRecords job c (read c) file) (s : Summary) → s.at.capture ≡ c
      → IsCaptureOf (length job.captures) shape p c → IsIn s (items_in (items g))
      → IsIn s (accepted_of job c (good_of job c file).records) × (is_of_shard g shape.groupers s.key ≡ true)
  put_is_accepted c file has s mine own put =
      let here : IsIn s (summaries_of_shard g shape.groupers (accepted_of job c (read c).records)) =
      subst (λ ss. IsIn s ss) (kept.summaries g c below own)
      (in_filter (λ (z : Summary). z.at.capture == c) s (items_in (items g)) (eq-eqb s.at.capture c mine) put) in
      let parts = of_filter (λ (z : Summary). is_of_shard g shape.groupers z.key) s (accepted_of job c (read c).records) here in (
        subst (λ ss. IsIn s ss) (sym (ap (accepted_of job c) has.is ∙ accepted_parts job c (read c).records has.later))
            (in_left s (accepted_of job c (read c).records) (accepted_after job c (read c).records has.later) parts.0),
        parts.1,
      )
