-- The parser's promise when it reads on: bytes, records and their Items.
use Rattle.std.proofs.Common.{ℕ, Bool, true, false, List, [], ◌∷◌, ◌++◌, ◌≡◌, ◌≢◌, ◌<◌, ◌≤◌, Option, Some, None, inl, inr, refl, sym, ap, subst, ◌∙◌, ⊎_elim, length, append_assoc}
use Rattle.std.specs.Prelude.{filter, ◌==◌, ◌⊎◌, option_to_list}
use Rattle.std.specs.List.{AllByRecursion}
use Rattle.std.proofs.lemmas.Bool.{eq-eqb}
use Rattle.std.proofs.lemmas.List.{append-nil}
use Rattle.std.proofs.lemmas.List.Elements.{filter-append}
use Rattle.ds_base.specs.Fronts.{IsIn}
use Rattle.ds_base.specs.declared.capture.Counts.{Counts}
use Rattle.ds_base.specs.declared.summary.Summary.{Summary}
use Rattle.key_select.specs.Fates.{accepted_of, accepted_after, counts_of}
use Rattle.key_select.specs.Wanted.{wanted_of, good_of}
use Rattle.key_select.proofs.Tallying.{accepted_parts}
use Rattle.node_frames.specs.declared.frame.Frame.{Frame}
use Rattle.node_frames.specs.declared.frame.Frame.TheVariants.{Item, Mark, CaptureEnd, CountsRow}
use Rattle.pcap_reader.specs.Captured.{Captured}
use Rattle.pcap_reader.specs.Lent.{AreFirst}
use Rattle.summary_spec.specs.Declaration.{Declared}
use Rattle.run_law.specs.Links.{MayFollow, AreLawful, ItemRule, AreLawfulItems}
use Rattle.run_law.specs.Nodes.{Reading, IsWhole, IsMarkOf, ParserKeeps}
use Rattle.run_law.specs.Sent.{items_in, item_in}
use Rattle.run_law.specs.Shapes.{Shape, IsCaptureOf, IsFront, is_of_shard, of_capture, summaries_of_shard}
use Rattle.run_law.proofs.Lists.{in_either, flat-append, front_trans}
use Rattle.parser_captures.proofs.Framing.{lawful_more, items_to, not_put, of_own, of_other}
use Rattle.parser_captures.proofs.Keeping.{same_or_not, differ_eqb}
use Rattle.parser_captures.proofs.Taking.{untold}
use Rattle.parser_captures.specs.Puts.{frames_by, frames_for}
use Rattle.parser_captures.specs.Steps.{MayBePut, GoesOn}

module _ (job : Declared) (shape : Shape) (p : ℕ) (read now : ℕ → Reading) (items put : ℕ → List Frame) (counts : List Frame)
    (c : ℕ) (more : List Captured) (found : Option Summary)
    (kept : ParserKeeps job shape p read items counts) (on : GoesOn job shape p read now items put c more found) where
  -- what is true of a capture that ended, or of any other
  ended_stays : (P : Reading → Type 0) (d : ℕ) → P (read d) → (read d).ended ≡ true → P (now d)
  ended_stays P d h ended =
      ⊎_elim
      (λ (e : d ≡ c). untold (P (now d)) (sym on.going ∙ subst (λ (k : ℕ). (read k).ended ≡ true) e ended))
      (λ (differ : d ≢ c). subst P (sym (on.others d differ)) h)
      (same_or_not d c)

  lawful_by : (g : ℕ) (s : Summary) (b : Bool) → AreLawfulItems job shape p g (items g) → (b ≡ true → MayFollow (ItemRule job shape p g) (items g) (Item s))
      → AreLawfulItems job shape p g (items g ++ frames_by b s)
  lawful_by g s true h may = lawful_more (ItemRule job shape p g) (items g) (Item s) h (may refl)
  lawful_by g s false h may = subst (AreLawful (ItemRule job shape p g)) (sym (append-nil (items g))) h

  lawful_with : (g : ℕ) (o : Option Summary) → g < shape.groupers → MayBePut job shape p items o → AreLawfulItems job shape p g (items g ++ frames_for shape.groupers g o)
  lawful_with g None below may = subst (AreLawful (ItemRule job shape p g)) (sym (append-nil (items g))) (kept.lawful g below)
  lawful_with g (Some s) below may = lawful_by g s (is_of_shard g shape.groupers s.key) (kept.lawful g below) (λ t. may g below t)

  lawful_on : (g : ℕ) → g < shape.groupers → AreLawfulItems job shape p g (put g)
  lawful_on g below = subst (AreLawful (ItemRule job shape p g)) (sym (on.frames g below)) (lawful_with g found below on.may)

  first_on : (d : ℕ) → IsCaptureOf (length job.captures) shape p d → AreFirst (wanted_of job d) (now d).bytes (now d).records
  first_on d own =
      ⊎_elim
      (λ (e : d ≡ c). subst (λ (k : ℕ). AreFirst (wanted_of job k) (now k).bytes (now k).records) (sym e) on.first)
      (λ (differ : d ≢ c). subst (λ (r : Reading). AreFirst (wanted_of job d) r.bytes r.records) (sym (on.others d differ)) (kept.first d own))
      (same_or_not d c)

  -- ---- summaries

  all_of : (test : Bool) (d : ℕ) (ss : List Summary) → AllByRecursion (λ (s : Summary). s.at.capture ≡ c) ss → (c == d) ≡ test
      → AllByRecursion (λ (s : Summary). (s.at.capture == d) ≡ test) ss
  all_of test d [] h e = tt
  all_of test d (s ∷ ss) h e = (ap (λ (k : ℕ). k == d) h.0 ∙ e, all_of test d ss h.1 e)

  with_test : (g : ℕ) (P : Summary → Type 0) (s : Summary) (ss : List Summary) (b : Bool) → is_of_shard g shape.groupers s.key ≡ b → P s
      → AllByRecursion P (summaries_of_shard g shape.groupers ss) → AllByRecursion P (summaries_of_shard g shape.groupers (s ∷ ss))
  with_test g P s ss true e h k = rw e (h, k)
  with_test g P s ss false e h k = rw e k

  all_filtered : (g : ℕ) (P : Summary → Type 0) (ss : List Summary) → AllByRecursion P ss → AllByRecursion P (summaries_of_shard g shape.groupers ss)
  all_filtered g P [] h = tt
  all_filtered g P (s ∷ ss) h = with_test g P s ss (is_of_shard g shape.groupers s.key) refl h.0 (all_filtered g P ss h.1)

  items_on : (g d : ℕ) → g < shape.groupers
      → of_capture d (items_in (put g)) ≡ of_capture d (items_in (items g)) ++ of_capture d (summaries_of_shard g shape.groupers (option_to_list found))
  items_on g d below =
      ap (λ (fs : List Frame). of_capture d (items_in fs)) (on.frames g below)
      ∙ ap (of_capture d) (flat-append item_in (items g) (frames_for shape.groupers g found))
      ∙ filter-append (λ (s : Summary). s.at.capture == d) (items_in (items g)) (items_in (frames_for shape.groupers g found))
      ∙ ap (λ (ss : List Summary). of_capture d (items_in (items g)) ++ of_capture d ss) (items_to shape.groupers g found)

  summaries_here : (g : ℕ) → g < shape.groupers → of_capture c (items_in (put g)) ≡ summaries_of_shard g shape.groupers (accepted_of job c (now c).records)
  summaries_here g below =
      let n : ℕ = shape.groupers in
      let found_here : List Summary = summaries_of_shard g n (option_to_list found) in
      items_on g c below
      ∙ ap (λ (ss : List Summary). of_capture c (items_in (items g)) ++ ss)
      (of_own c found_here (all_filtered g (λ (s : Summary). (s.at.capture == c) ≡ true) (option_to_list found) (all_of true c (option_to_list found) on.own_found (eq-eqb c c refl))))
      ∙ ap (λ (ss : List Summary). ss ++ found_here) (kept.summaries g c below on.own)
      ∙ ap (λ (ss : List Summary). summaries_of_shard g n (accepted_of job c (read c).records) ++ summaries_of_shard g n ss) on.accepted
      ∙ sym (filter-append (λ (s : Summary). is_of_shard g n s.key) (accepted_of job c (read c).records) (accepted_after job c (read c).records more))
      ∙ ap (summaries_of_shard g n) (sym (accepted_parts job c (read c).records more))
      ∙ ap (λ (rs : List Captured). summaries_of_shard g n (accepted_of job c rs)) (sym on.records)

  summaries_there : (g d : ℕ) → g < shape.groupers → d ≢ c → IsCaptureOf (length job.captures) shape p d
      → of_capture d (items_in (put g)) ≡ summaries_of_shard g shape.groupers (accepted_of job d (now d).records)
  summaries_there g d below differ own =
      let n : ℕ = shape.groupers in
      items_on g d below
      ∙ ap (λ (ss : List Summary). of_capture d (items_in (items g)) ++ ss)
      (of_other d (summaries_of_shard g n (option_to_list found))
      (all_filtered g (λ (s : Summary). (s.at.capture == d) ≡ false) (option_to_list found) (all_of false d (option_to_list found) on.own_found (differ_eqb c d (λ e. differ (sym e))))))
      ∙ append-nil (of_capture d (items_in (items g)))
      ∙ kept.summaries g d below own
      ∙ ap (λ (r : Reading). summaries_of_shard g n (accepted_of job d r.records)) (sym (on.others d differ))

  summaries_on : (g d : ℕ) → g < shape.groupers → IsCaptureOf (length job.captures) shape p d
      → of_capture d (items_in (put g)) ≡ summaries_of_shard g shape.groupers (accepted_of job d (now d).records)
  summaries_on g d below own =
      ⊎_elim
      (λ (e : d ≡ c). subst (λ (k : ℕ). of_capture k (items_in (put g)) ≡ summaries_of_shard g shape.groupers (accepted_of job k (now k).records)) (sym e) (summaries_here g below))
      (λ (differ : d ≢ c). summaries_there g d below differ own)
      (same_or_not d c)

  -- ---- marks and ends

  -- a frame that is no Item was put before
  was_put : (g : ℕ) (f : Frame) → g < shape.groupers → ((o : Option Summary) → IsIn f (frames_for shape.groupers g o) → ⊥) → IsIn f (put g) → IsIn f (items g)
  was_put g f below other h =
      ⊎_elim (λ (l : IsIn f (items g)). l) (λ (r : IsIn f (frames_for shape.groupers g found)). absurd (other found r))
      (in_either f (items g) (frames_for shape.groupers g found) (subst (λ fs. IsIn f fs) (on.frames g below) h))

  records_on : (d : ℕ) → IsFront (read d).records (now d).records
  records_on d =
      ⊎_elim
      (λ (e : d ≡ c). subst (λ (k : ℕ). IsFront (read k).records (now k).records) (sym e) (record { rest = more; joined = on.records }))
      (λ (differ : d ≢ c). record { rest = []; joined = ap (λ (r : Reading). r.records) (on.others d differ) ∙ sym (append-nil (read d).records) })
      (same_or_not d c)

  marks_on : (g d mark : ℕ) → g < shape.groupers → IsIn (Mark d mark) (put g) → IsMarkOf job d (now d).records mark
  marks_on g d mark below h =
      let m = kept.marks g d mark below (was_put g (Mark d mark) below (λ o. not_put shape.groupers g (Mark d mark) o refl) h) in
      record { front = m.front; taken = front_trans m.front (read d).records (now d).records m.taken (records_on d); is = m.is }

  ends_on : (g d : ℕ) → g < shape.groupers → IsIn (CaptureEnd d) (put g) → IsWhole job d (now d)
  ends_on g d below h =
      let whole = kept.ends g d below (was_put g (CaptureEnd d) below (λ o. not_put shape.groupers g (CaptureEnd d) o refl) h) in
      ended_stays (IsWhole job d) d whole whole.ended

  rows_on : (d : ℕ) (k : Counts) → IsIn (CountsRow d k) counts
      → IsWhole job d (now d) × (k ≡ counts_of job d (now d).records (good_of job d (now d).bytes).cut)
  rows_on d k h =
      let row = kept.rows d k h in
      ended_stays (λ (r : Reading). IsWhole job d r × (k ≡ counts_of job d r.records (good_of job d r.bytes).cut)) d row row.0.ended

  pub goes_on : ParserKeeps job shape p now put counts
  goes_on = record {
    lawful = lawful_on;
    lawful_counts = kept.lawful_counts;
    first = first_on;
    summaries = summaries_on;
    marks = marks_on;
    ends = ends_on;
    rows = rows_on;
  }
