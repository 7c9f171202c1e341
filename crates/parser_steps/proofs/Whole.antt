-- The chosen capture has ended, and its end was put for each grouper and its row for the merge.
use Rattle.std.proofs.Common.{ℕ, ◌≡◌, ◌≢◌, ◌<◌, ◌≤◌, ◌+◌, ◌*◌, Bool, None, inl, true, false, List, [], ◌∷◌, ◌++◌, length, refl, sym, ap, subst, ◌∙◌, arith, ⊎_elim}
use Rattle.std.specs.Prelude.{IsTrue, ◌^◌, slice_set}
use Rattle.ds_base.specs.Fronts.{IsIn}
use Rattle.ds_base.specs.Outside.{SourceSeen, SourceStays}
use Rattle.node_frames.specs.declared.frame.Frame.{Frame}
use Rattle.node_frames.specs.declared.frame.Frame.TheVariants.{CaptureEnd, CountsRow}
use Rattle.shuffle_poll.specs.Shuffles.{ShuffleSeen, ShuffleHolds}
use Rattle.key_select.specs.Fates.{counts_of}
use Rattle.key_select.specs.Tally.{capture_of}
use Rattle.key_select.specs.Wanted.{good_of}
use Rattle.pcap_reader.specs.Reader.{bytes_held}
use Rattle.round_law.specs.Measure.{capture_records}
use Rattle.summary_spec.specs.Declaration.{Declared}
use Rattle.run_law.specs.Links.{HasEnded, HasRow}
use Rattle.run_law.specs.Nodes.{Reading, IsWhole, ParserKeeps, ParserMarks}
use Rattle.run_law.specs.Sent.{of_items}
use Rattle.run_law.specs.Shapes.{IsCaptureOf}
use Rattle.run_law.proofs.Lists.{in_right}
use Rattle.node_lanes.specs.Ends.{put_on}
use Rattle.node_lanes.proofs.Listed.{before_or_not}
use Rattle.net_law.specs.Parsers.{IsReadOf, ReadingGoes, read_of, behind_of}
use Rattle.parser_captures.specs.Captures.{reading_of}
use Rattle.parser_captures.specs.declared.capture.OneCapture.{OneCapture}
use Rattle.parser_captures.proofs.Ending.{ended}
use Rattle.parser_captures.proofs.Keeping.{same_or_not, differ_eqb}
use Rattle.parser_captures.proofs.Marking.{AreEven, marks_ended}
use Rattle.parser_steps.specs.One.{EndsOne}
use Rattle.parser_steps.specs.Seen.{StepsSeen, AreCaptures, bytes_read, most_put}
use Rattle.parser_steps.specs.Steps.{StepsOn}
use Rattle.parser_steps.proofs.Bounds.{one_if}
use Rattle.parser_steps.proofs.Changed.{Goes, changed, shape_of, at_one, one_here, one_there, marks_as}
use Rattle.parser_steps.proofs.Chosen as chosen
use Rattle.parser_steps.proofs.Chosen.{IsChosen}
use Rattle.parser_steps.proofs.Extra.{Extra, by_one}
use Rattle.parser_steps.proofs.Going.{even_still}
use Rattle.parser_steps.proofs.Recorded.{counts_on, bytes_on, room_on}
use Rattle.parser_steps.proofs.Stilled.{brief_was, goes_same}

brief_pow : (n : ℕ) → n ≤ capture_records → n ≤ 2 ^ 40
unfolding capture_records
brief_pow n le = le

module _ (job : Declared) (me parsers groupers : ℕ) (captures : List OneCapture) (sources : List SourceSeen) (finished : Bool) (outs : ShuffleSeen) (i : ℕ) (old : OneCapture) (before : SourceSeen)
    (b : IsChosen job me parsers groupers captures sources finished outs i old before)
    (outs' : ShuffleSeen) (new : OneCapture) (after : SourceSeen) (links : outs'.links ≡ outs.links) (kept : ShuffleHolds outs'.links outs'.queues) (number : capture_of new.tally ≡ me + i * parsers)
    (stays : SourceStays before after) (quiet : after.faults ≡ before.faults) (e : EndsOne job (me + i * parsers) groupers old new before after outs outs') where
  abbrev c : ℕ
  c = me + i * parsers

  abbrev steps : StepsSeen
  steps = chosen.steps job me parsers groupers captures sources finished outs i old before b

  abbrev read : ℕ → Reading
  read = read_of (chosen.seen job me parsers groupers captures sources finished outs i old before b)

  abbrev behind : ℕ → ℕ
  behind = behind_of (chosen.seen job me parsers groupers captures sources finished outs i old before b)

  abbrev now : Reading → ℕ → Reading
  now reading = at_one c reading read

  own : IsCaptureOf (length job.captures) (shape_of steps 0) me c
  own = chosen.own job me parsers groupers captures sources finished outs i old before b

  going : (read c).ended ≡ false
  going = chosen.going job me parsers groupers captures sources finished outs i old before b

  read_was : read c ≡ reading_of job old
  read_was = chosen.read_was job me parsers groupers captures sources finished outs i old before b

  number_was : capture_of old.tally ≡ c
  number_was = chosen.number_was job me parsers groupers captures sources finished outs i old before b

  now_is : now (reading_of job new) c ≡ record (read c) { ended = true }
  now_is = one_here c (reading_of job new) read ∙ e.whole.reading ∙ ap (λ (r : Reading). record r { ended = true }) (sym read_was)

  whole_now : IsWhole job c (now (reading_of job new) c)
  whole_now =
      subst (IsWhole job c) (sym (one_here c (reading_of job new) read)) (subst (λ (k : ℕ). IsWhole job k (reading_of job new)) number_was e.whole.whole)

  fared_now : e.counts ≡ counts_of job c (now (reading_of job new) c).records (good_of job c (now (reading_of job new) c).bytes).cut
  fared_now =
      e.whole.fared
      ∙ ap (λ (k : ℕ). counts_of job k (reading_of job new).records (good_of job k new.bytes.items).cut) number_was
      ∙ ap (λ (r : Reading). counts_of job c r.records (good_of job c r.bytes).cut) (sym (one_here c (reading_of job new) read))

  few : length (read c).records ≤ 2 ^ 40
  few = brief_pow (length (read c).records) (subst (λ (r : Reading). length r.records ≤ capture_records) (sym read_was) (brief_was job me parsers groupers captures sources finished outs i old before b))

  keeps_new : (n : ℕ) → ParserKeeps job (shape_of steps n) me (now (reading_of job new)) (put_on outs') (put_on outs' groupers)
  keeps_new n =
      ended job (shape_of steps n) me read (now (reading_of job new)) (put_on outs) (put_on outs') (put_on outs groupers) (put_on outs' groupers)
      (chosen.keeps_was job me parsers groupers captures sources finished outs i old before b n) c own going now_is (λ d differ. one_there c (reading_of job new) read d differ) whole_now few e.counts fared_now e.puts.ends e.puts.row

  records_now : (d : ℕ) → (now (reading_of job new) d).records ≡ (read d).records
  records_now d =
      ⊎_elim
      (λ (is : d ≡ c). subst (λ (k : ℕ). (now (reading_of job new) k).records ≡ (read k).records) (sym is) (ap (λ (r : Reading). r.records) now_is))
      (λ (differ : d ≢ c). ap (λ (r : Reading). r.records) (one_there c (reading_of job new) read d differ))
      (same_or_not d c)

  -- its end is on each link to a grouper
  end_there : (g : ℕ) → g < groupers → HasEnded c (put_on outs' g)
  end_there g less = subst (HasEnded c) (sym (e.puts.ends g less)) (in_right (CaptureEnd c) (put_on outs g) (CaptureEnd c ∷ []) (inl refl))

  row_there : HasRow c (put_on outs' groupers)
  row_there = (e.counts, subst (λ (fs : List Frame). IsIn (CountsRow c e.counts) fs) (sym e.puts.row) (in_right (CountsRow c e.counts) (put_on outs groupers) (CountsRow c e.counts ∷ []) (inl refl)))

  says_nothing : (g d : ℕ) → g < groupers → (IsIn (CaptureEnd d) (put_on outs' g) → ⊥) → of_items d (CaptureEnd c) ≡ None
  says_nothing g d less none =
      ⊎_elim
      (λ (is : d ≡ c). absurd (none (subst (λ (k : ℕ). IsIn (CaptureEnd k) (put_on outs' g)) (sym is) (end_there g less))))
      (λ (differ : d ≢ c). rw (differ_eqb c d (λ same. differ (sym same))) refl)
      (same_or_not d c)

  behind_same : (d : ℕ) → behind d ≡ at_one c new.behind behind d
  behind_same d =
      ⊎_elim
      (λ (is : d ≡ c).
      subst (λ (k : ℕ). behind k ≡ at_one c new.behind behind k) (sym is)
      (chosen.behind_was job me parsers groupers captures sources finished outs i old before b ∙ sym e.whole.behind ∙ sym (one_here c new.behind behind)))
      (λ (differ : d ≢ c). sym (one_there c new.behind behind d differ))
      (same_or_not d c)

  marks_new : (n : ℕ) → ParserMarks job (shape_of steps n) me (at_one c new.behind behind) (now (reading_of job new)) (put_on outs')
  marks_new n =
      marks_as job (shape_of steps n) me behind (at_one c new.behind behind) (now (reading_of job new)) (now (reading_of job new)) (put_on outs') (λ d own'. (behind_same d, refl))
      (marks_ended job (shape_of steps n) me behind read (now (reading_of job new)) (put_on outs) (put_on outs') (CaptureEnd c)
      (chosen.marks_were job me parsers groupers captures sources finished outs i old before b n) records_now e.puts.ends (λ g d less own' none. says_nothing g d less none))

  records_same : (reading_of job new).records ≡ (reading_of job old).records
  records_same = ap (λ (r : Reading). r.records) e.whole.reading

  even_new : AreEven job (shape_of steps 0) me (now (reading_of job new))
  even_new = even_still job me parsers groupers captures sources finished outs i old before b new e.whole.stands number records_same e.whole.behind

  extra : (k : ℕ) → k < length outs.links → Extra 1 (put_on outs k) (put_on outs' k)
  extra k less =
      ⊎_elim
      (λ (below : k < groupers). by_one (CaptureEnd c) (put_on outs k) (put_on outs' k) refl (e.puts.ends k below))
      (λ (past : groupers ≤ k).
      let last : k ≡ groupers = omega (arith, past, less, b.holds.links) in
      by_one (CountsRow c e.counts) (put_on outs k) (put_on outs' k) refl (subst (λ (j : ℕ). put_on outs' j ≡ put_on outs j ++ CountsRow c e.counts ∷ []) (sym last) e.puts.row))
      (before_or_not k groupers)

  brief : length (reading_of job new).records ≤ capture_records
  brief = omega (arith, ap length records_same, brief_was job me parsers groupers captures sources finished outs i old before b)

  near : new.behind < 32
  near = omega (arith, e.whole.behind, chosen.near_was job me parsers groupers captures sources finished outs i old before b)

  read_whole : IsReadOf None after (reading_of job new)
  read_whole = record {
    front = λ told. record { rest = after.left; joined = e.whole.left told };
    left = λ told none. e.whole.left told;
    whole = λ told ended'. let was : IsTrue before.told = subst IsTrue stays.told told in sym (e.whole.all was) ∙ sym (stays.whole was);
  }

  open_was : (reading_of job old).ended ≡ false
  open_was = chosen.going_was job me parsers groupers captures sources finished outs i old before b

  one_more_end : one_if (reading_of job new).ended ≡ one_if (reading_of job old).ended + 1
  one_more_end = ap (λ (r : Reading). one_if r.ended) e.whole.reading ∙ (let k : one_if (reading_of job old).ended ≡ 0 = ap one_if open_was in omega (arith, k))

  reads_on : ReadingGoes (reading_of job old) (reading_of job new)
  reads_on = goes_same (reading_of job old) (reading_of job new) (ap (λ (r : Reading). r.bytes) e.whole.reading) records_same open_was

  pub counts : StepsOn steps (changed steps i after (reading_of job new) new.behind (bytes_held new.reading.reader)) 0 1
  counts =
      counts_on steps i after (reading_of job old) (reading_of job new) new.behind (bytes_held new.reading.reader) 0 1
      (chosen.there_read job me parsers groupers captures sources finished outs i old before b)
      (chosen.reading_was job me parsers groupers captures sources finished outs i old before b) (omega (arith, ap length records_same)) one_more_end
      (chosen.unfinished job me parsers groupers captures sources finished outs i old before b)

  pub bytes_same : bytes_read (changed steps i after (reading_of job new) new.behind (bytes_held new.reading.reader)) ≡ bytes_read steps
  bytes_same =
      bytes_on steps i 0 after (reading_of job old) (reading_of job new) new.behind (bytes_held new.reading.reader)
      (chosen.there_read job me parsers groupers captures sources finished outs i old before b)
      (chosen.reading_was job me parsers groupers captures sources finished outs i old before b) (ap (λ (r : Reading). length r.bytes) e.whole.reading ∙ omega arith)
      ∙ omega arith

  room : most_put steps + 1 ≤ most_put (changed steps i after (reading_of job new) new.behind (bytes_held new.reading.reader))
  room = let r = room_on steps (changed steps i after (reading_of job new) new.behind (bytes_held new.reading.reader)) 0 1 counts in omega (arith, r)

  source_quiet : after.faults ≡ 0
  source_quiet = quiet ∙ chosen.source_quiet job me parsers groupers captures sources finished outs i old before b

  pub captures_stand : AreCaptures job me parsers (slice_set captures i new)
  captures_stand =
      chosen.captures_stand job me parsers groupers captures sources finished outs i old before b outs' None new after 1 links kept e.whole.stands number brief near extra keeps_new marks_new even_new read_whole room
      (λ none ended'. (end_there, row_there)) (λ none. source_quiet) stays reads_on

  pub goes : Goes steps outs outs' None i after (reading_of job new) new.behind (bytes_held new.reading.reader)
  goes =
      chosen.goes job me parsers groupers captures sources finished outs i old before b outs' None new after 1 links kept e.whole.stands number brief near extra keeps_new marks_new even_new read_whole room
      (λ none ended'. (end_there, row_there)) (λ none. source_quiet) stays reads_on
