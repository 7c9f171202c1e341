-- The chosen capture took no record up, and nothing was put: a piece was read, or it was stopped.
use Rattle.std.proofs.Common.{ℕ, ◌≡◌, ◌<◌, ◌≤◌, ◌+◌, ◌*◌, Bool, Option, Some, None, true, false, List, ◌++◌, length, take, refl, sym, ap, subst, ◌∙◌, arith}
use Rattle.std.specs.Prelude.{IsTrue, slice_set}
use Rattle.ds_base.specs.Outside.{SourceSeen, SourceStays}
use Rattle.credit_link.specs.declared.turn.NodeFault.{NodeFault}
use Rattle.shuffle_poll.specs.Shuffles.{ShuffleSeen}
use Rattle.key_select.specs.Tally.{capture_of, records_taken}
use Rattle.key_select.specs.Wanted.{good_of}
use Rattle.pcap_reader.specs.Reader.{bytes_held}
use Rattle.round_law.specs.Measure.{capture_records}
use Rattle.summary_spec.specs.Declaration.{Declared}
use Rattle.run_law.specs.Nodes.{Reading}
use Rattle.node_lanes.specs.Ends.{put_on}
use Rattle.node_lanes.proofs.Listed.{front_same}
use Rattle.net_law.specs.Parsers.{IsReadOf, ReadingGoes}
use Rattle.parser_captures.specs.Captures.{CaptureStands, IsLeft, reading_of}
use Rattle.parser_captures.specs.declared.capture.OneCapture.{OneCapture}
use Rattle.parser_captures.proofs.Taking.{untold}
use Rattle.parser_steps.specs.Seen.{StepsSeen, AreCaptures, bytes_read, most_put}
use Rattle.parser_steps.specs.Steps.{StepsOn}
use Rattle.parser_steps.proofs.Bounds.{one_if}
use Rattle.parser_steps.proofs.Changed.{Goes, changed}
use Rattle.parser_steps.proofs.Chosen as chosen
use Rattle.parser_steps.proofs.Chosen.{IsChosen}
use Rattle.parser_steps.proofs.Extra.{by_none}
use Rattle.parser_steps.proofs.Going.{keeps_still, marks_still, even_still}
use Rattle.parser_steps.proofs.Recorded.{counts_on, bytes_on, room_on}

module _ (job : Declared) (me parsers groupers : ℕ) (captures : List OneCapture) (sources : List SourceSeen) (finished : Bool) (outs : ShuffleSeen) (i : ℕ) (old : OneCapture) (before : SourceSeen)
    (b : IsChosen job me parsers groupers captures sources finished outs i old before) where
  abbrev steps : StepsSeen
  steps = chosen.steps job me parsers groupers captures sources finished outs i old before b

  pub brief_was : length (reading_of job old).records ≤ capture_records
  brief_was =
      let s : CaptureStands job old = chosen.stands_was job me parsers groupers captures sources finished outs i old before b in
      let few : records_taken old.tally ≤ capture_records =
      subst (λ (x : OneCapture). records_taken x.tally ≤ capture_records) (b.was old) (b.stand.are.brief i old (chosen.there job me parsers groupers captures sources finished outs i old before b)) in
      omega (arith, few, s.tallies.records)

  module _ (fault : Option NodeFault) (new : OneCapture) (after : SourceSeen) (ends more : ℕ) (stands : CaptureStands job new) (number : capture_of new.tally ≡ me + i * parsers)
      (records : (reading_of job new).records ≡ (reading_of job old).records) (behind_same : new.behind ≡ old.behind) (read : IsReadOf fault after (reading_of job new))
      (bytes : length (reading_of job new).bytes ≡ length (reading_of job old).bytes + more) (ended : one_if (reading_of job new).ended ≡ one_if (reading_of job old).ended + ends)
      (open' : fault ≡ None → (reading_of job new).ended ≡ false) (quiet : fault ≡ None → after.faults ≡ 0) (stays : SourceStays before after)
      (reads_on : ReadingGoes (reading_of job old) (reading_of job new)) where
    brief : length (reading_of job new).records ≤ capture_records
    brief = omega (arith, ap length records, brief_was)

    near : new.behind < 32
    near = omega (arith, behind_same, chosen.near_was job me parsers groupers captures sources finished outs i old before b)

    pub counts : StepsOn steps (changed steps i after (reading_of job new) new.behind (bytes_held new.reading.reader)) 0 ends
    counts =
        counts_on steps i after (reading_of job old) (reading_of job new) new.behind (bytes_held new.reading.reader) 0 ends
        (chosen.there_read job me parsers groupers captures sources finished outs i old before b)
        (chosen.reading_was job me parsers groupers captures sources finished outs i old before b) (omega (arith, ap length records)) ended
        (chosen.unfinished job me parsers groupers captures sources finished outs i old before b)

    pub bytes_more : bytes_read (changed steps i after (reading_of job new) new.behind (bytes_held new.reading.reader)) ≡ bytes_read steps + more
    bytes_more =
        bytes_on steps i more after (reading_of job old) (reading_of job new) new.behind (bytes_held new.reading.reader)
        (chosen.there_read job me parsers groupers captures sources finished outs i old before b)
        (chosen.reading_was job me parsers groupers captures sources finished outs i old before b) bytes

    room : most_put steps + 0 ≤ most_put (changed steps i after (reading_of job new) new.behind (bytes_held new.reading.reader))
    room = let r = room_on steps (changed steps i after (reading_of job new) new.behind (bytes_held new.reading.reader)) 0 ends counts in omega (arith, r)

    pub captures_stand : AreCaptures job me parsers (slice_set captures i new)
    captures_stand =
        chosen.captures_stand job me parsers groupers captures sources finished outs i old before b outs fault new after 0 refl b.holds.stands.outs.holds stands number brief near
        (λ k less. by_none (put_on outs k) (put_on outs k) refl)
        (keeps_still job me parsers groupers captures sources finished outs i old before b new stands number records behind_same)
        (marks_still job me parsers groupers captures sources finished outs i old before b new stands number records behind_same)
        (even_still job me parsers groupers captures sources finished outs i old before b new stands number records behind_same)
        read room (λ none e. untold _ (sym (open' none) ∙ e)) quiet stays reads_on

    pub goes : Goes steps outs outs fault i after (reading_of job new) new.behind (bytes_held new.reading.reader)
    goes =
        chosen.goes job me parsers groupers captures sources finished outs i old before b outs fault new after 0 refl b.holds.stands.outs.holds stands number brief near
        (λ k less. by_none (put_on outs k) (put_on outs k) refl)
        (keeps_still job me parsers groupers captures sources finished outs i old before b new stands number records behind_same)
        (marks_still job me parsers groupers captures sources finished outs i old before b new stands number records behind_same)
        (even_still job me parsers groupers captures sources finished outs i old before b new stands number records behind_same)
        read room (λ none e. untold _ (sym (open' none) ∙ e)) quiet stays reads_on

-- ---- what was read of a source

-- a piece more
pub read_piece : (source : SourceSeen) (r : Reading) → IsLeft r.bytes source → r.ended ≡ false → IsReadOf None source r
read_piece source r left open' = record {
  front = λ told. record { rest = source.left; joined = left told };
  left = λ told none. left told;
  whole = λ told ended. untold _ (sym open' ∙ ended);
}

-- no more of it, and the capture was stopped
pub read_stopped : (bad : NodeFault) (before after : SourceSeen) (r : Reading) → SourceStays before after → IsLeft r.bytes after → (r.ended ≡ true → IsTrue before.told → before.whole ≡ r.bytes)
    → IsReadOf (Some bad) after r
read_stopped bad before after r stays left whole = record {
  front = λ told. record { rest = after.left; joined = left told };
  left = λ told none. untold _ (ap (λ (o : Option NodeFault). not_some o) none);
  whole = λ told ended. let was : IsTrue before.told = subst IsTrue stays.told told in sym (whole ended was) ∙ sym (stays.whole was);
}
  where
    not_some : Option NodeFault → Bool
    not_some (Some x) = false
    not_some None = true

-- a piece was lost
pub read_lost : (bad : NodeFault) (before after : SourceSeen) (r s : Reading) → SourceStays before after → IsReadOf None before r → s.bytes ≡ r.bytes → s.ended ≡ false → IsReadOf (Some bad) after s
read_lost bad before after r s stays h same open' = record {
  front = λ told.
      let was : IsTrue before.told = subst IsTrue stays.told told in
      let f = h.front was in
      record { rest = f.rest; joined = stays.whole was ∙ f.joined ∙ ap (λ (xs : List ℕ). xs ++ f.rest) (sym same) };
  left = λ told none. untold _ (ap (λ (o : Option NodeFault). not_some o) none);
  whole = λ told ended. untold _ (sym open' ∙ ended);
}
  where
    not_some : Option NodeFault → Bool
    not_some (Some x) = false
    not_some None = true

-- ---- what was read of a capture

pub same_records : (job : Declared) (old new : OneCapture) → new.bytes.items ≡ old.bytes.items → records_taken new.tally ≡ records_taken old.tally → capture_of new.tally ≡ capture_of old.tally
    → (reading_of job new).records ≡ (reading_of job old).records
same_records job old new bytes records number =
    ap (λ (n : ℕ). take n (good_of job (capture_of new.tally) new.bytes.items).records) records
    ∙ ap (λ (xs : List ℕ). take (records_taken old.tally) (good_of job (capture_of new.tally) xs).records) bytes
    ∙ ap (λ (k : ℕ). take (records_taken old.tally) (good_of job k old.bytes.items).records) number

pub goes_same : (old new : Reading) → new.bytes ≡ old.bytes → new.records ≡ old.records → old.ended ≡ false → ReadingGoes old new
goes_same old new bytes records open' = record {
  bytes = front_same old.bytes new.bytes bytes;
  records = front_same old.records new.records records;
  ended = λ ended. untold _ (sym open' ∙ ended);
}

pub goes_longer : (old new : Reading) (piece : List ℕ) → new.bytes ≡ old.bytes ++ piece → new.records ≡ old.records → old.ended ≡ false → ReadingGoes old new
goes_longer old new piece bytes records open' = record {
  bytes = record { rest = piece; joined = bytes };
  records = front_same old.records new.records records;
  ended = λ ended. untold _ (sym open' ∙ ended);
}
