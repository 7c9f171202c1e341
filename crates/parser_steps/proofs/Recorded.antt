-- The chosen capture took a record up, and its Item was put, and the mark that was due.
use Rattle.std.proofs.Common.{ℕ, ◌≡◌, ◌<◌, ◌≤◌, ◌+◌, ◌*◌, Bool, Option, Some, None, inl, inr, true, false, List, [], ◌∷◌, ◌++◌, length, refl, sym, ap, subst, ◌∙◌, arith, append-nil, ⊎_elim}
use Rattle.std.specs.Prelude.{◌^◌, slice_index_or, slice_set}
use Rattle.std.proofs.lemmas.List.{length_push}
use Rattle.std.proofs.lemmas.Nat.{mod_below}
use Rattle.ds_base.specs.Keys.{shard_of, fnv, key_bytes}
use Rattle.ds_base.specs.Outside.{SourceSeen}
use Rattle.ds_base.specs.declared.summary.Summary.{Summary}
use Rattle.node_frames.specs.declared.frame.Frame.{Frame}
use Rattle.node_frames.specs.declared.frame.Frame.TheVariants.{Mark}
use Rattle.shuffle_poll.specs.Shuffles.{ShuffleSeen, ShuffleHolds}
use Rattle.key_select.specs.Late.{mark_of}
use Rattle.key_select.specs.Tally.{Tallies, capture_of}
use Rattle.pcap_reader.specs.Reader.{bytes_held}
use Rattle.round_law.specs.Measure.{capture_records}
use Rattle.summary_spec.specs.Declaration.{Declared}
use Rattle.run_law.specs.Nodes.{Reading, ParserKeeps, ParserMarks}
use Rattle.run_law.specs.Shapes.{IsCaptureOf, is_of_shard}
use Rattle.run_law.specs.Snapshot.{unread}
use Rattle.node_lanes.specs.Ends.{put_on}
use Rattle.node_lanes.proofs.Listed.{before_or_not, front_same}
use Rattle.net_law.specs.Parsers.{IsReadOf, ReadingGoes, read_of, behind_of}
use Rattle.parser_captures.specs.Captures.{CaptureStands, reading_of}
use Rattle.parser_captures.specs.Puts.{frames_by, frames_for}
use Rattle.parser_captures.specs.declared.capture.OneCapture.{OneCapture}
use Rattle.parser_captures.proofs.Ending.{marked}
use Rattle.parser_captures.proofs.Keeping.{no_end, differ_eqb}
use Rattle.parser_captures.proofs.Marking.{AreEven, marks_marked}
use Rattle.parser_captures.proofs.Taking.{untold}
use Rattle.parser_steps.specs.One.{TakesOne, PutsMark, MayPutMark}
use Rattle.parser_steps.specs.Seen.{StepsSeen, AreCaptures, bytes_read, most_put}
use Rattle.parser_steps.specs.Steps.{StepsOn}
use Rattle.parser_steps.proofs.Bounds.{sum_changes, one_if}
use Rattle.parser_steps.proofs.Changed.{Goes, changed, shape_of, at_one, one_here, one_there}
use Rattle.parser_steps.proofs.Chosen as chosen
use Rattle.parser_steps.proofs.Chosen.{IsChosen}
use Rattle.parser_steps.proofs.Extra.{Extra, by_none, by_one, by_found, both, more}
use Rattle.parser_steps.proofs.Going.{keeps_took, marks_took, even_took, number_next}

-- ---- counts

-- counts of one more step, from what became of one reading
pub counts_on : (steps : StepsSeen) (i : ℕ) (source : SourceSeen) (old new : Reading) (behind held records ends : ℕ) → i < length steps.reads → slice_index_or steps.reads i unread ≡ old
    → length new.records ≡ length old.records + records → one_if new.ended ≡ one_if old.ended + ends → steps.finished ≡ false
    → StepsOn steps (changed steps i source new behind held) records ends
counts_on steps i source old new behind held records ends there was more more_ends going = record {
  records_more = sum_changes (λ (r : Reading). length r.records) steps.reads i records new there (more ∙ ap (λ (r : Reading). length r.records + records) (sym was));
  ends_more = sum_changes (λ (r : Reading). one_if r.ended) steps.reads i ends new there (more_ends ∙ ap (λ (r : Reading). one_if r.ended + ends) (sym was));
  going = (going, going);
}

pub bytes_on : (steps : StepsSeen) (i more : ℕ) (source : SourceSeen) (old new : Reading) (behind held : ℕ) → i < length steps.reads → slice_index_or steps.reads i unread ≡ old
    → length new.bytes ≡ length old.bytes + more → bytes_read (changed steps i source new behind held) ≡ bytes_read steps + more
bytes_on steps i more source old new behind held there was e =
    sum_changes (λ (r : Reading). length r.bytes) steps.reads i more new there (e ∙ ap (λ (r : Reading). length r.bytes + more) (sym was))

-- room for as many frames as the counts rose by
pub room_on : (steps after : StepsSeen) (records ends : ℕ) → StepsOn steps after records ends → most_put steps + (2 * records + ends) ≤ most_put after
room_on steps after records ends on =
    let same : one_if after.finished ≡ one_if steps.finished = ap one_if (on.going.1 ∙ sym on.going.0) in
    omega (arith, on.records_more, on.ends_more, same)

-- ---- frames for the merge

none_by : (b : Bool) (s : Summary) → b ≡ false → frames_by b s ≡ []
none_by b s e = rw e refl

none_for_merge : (n : ℕ) (found : Option Summary) → 0 < n → frames_for n n found ≡ []
none_for_merge n None some = refl
none_for_merge n (Some s) some =
    let less : shard_of s.key n < n = mod_below (fnv (key_bytes s.key)) n some in
    none_by (is_of_shard n n s.key) s (differ_eqb (shard_of s.key n) n (λ e. not_below (shard_of s.key n) n less e))
  where
    not_below : (a b : ℕ) → a < b → a ≡ b → ⊥
    not_below a b less e = absurd (omega (arith, less, e))

few_records : (n : ℕ) → n < 2 ^ 40 → n + 1 ≤ capture_records
unfolding capture_records
few_records n less = omega (arith, less)

module _ (job : Declared) (me parsers groupers : ℕ) (captures : List OneCapture) (sources : List SourceSeen) (finished : Bool) (outs : ShuffleSeen) (i : ℕ) (old : OneCapture) (before : SourceSeen)
    (b : IsChosen job me parsers groupers captures sources finished outs i old before)
    (outs' : ShuffleSeen) (new : OneCapture) (links : outs'.links ≡ outs.links) (kept : ShuffleHolds outs'.links outs'.queues) (number : capture_of new.tally ≡ me + i * parsers)
    (some : 0 < groupers) (t : TakesOne job (me + i * parsers) groupers old new outs outs') where
  abbrev c : ℕ
  c = me + i * parsers

  abbrev steps : StepsSeen
  steps = chosen.steps job me parsers groupers captures sources finished outs i old before b

  abbrev read : ℕ → Reading
  read = read_of (chosen.seen job me parsers groupers captures sources finished outs i old before b)

  abbrev behind : ℕ → ℕ
  behind = behind_of (chosen.seen job me parsers groupers captures sources finished outs i old before b)

  abbrev now : Reading → ℕ → Reading
  now reading = at_one c reading read

  own : IsCaptureOf (length job.captures) (shape_of steps 0) me c
  own = chosen.own job me parsers groupers captures sources finished outs i old before b

  -- by whether a mark was put
  abbrev May : Type 0
  May = MayPutMark c groupers t.took new t.puts.mid outs'

  reading_by : May → reading_of job new ≡ reading_of job t.took
  reading_by (inl m) = ap (reading_of job) m.1
  reading_by (inr m) = ap (reading_of job) m.1

  reading_same : reading_of job new ≡ reading_of job t.took
  reading_same = reading_by t.puts.may

  tally_by : May → capture_of new.tally ≡ capture_of t.took.tally
  tally_by (inl m) = ap (λ (x : OneCapture). capture_of x.tally) m.1
  tally_by (inr m) = ap (λ (x : OneCapture). capture_of x.tally) m.1

  number_took : capture_of t.took.tally ≡ c
  number_took = sym (tally_by t.puts.may) ∙ number

  merge_mid : put_on t.puts.mid groupers ≡ put_on outs groupers
  merge_mid = t.puts.item groupers ∙ ap (λ (fs : List Frame). put_on outs groupers ++ fs) (none_for_merge groupers t.found some) ∙ append-nil (put_on outs groupers)

  keeps_mid : (n : ℕ) → ParserKeeps job (shape_of steps n) me (now (reading_of job t.took)) (put_on t.puts.mid) (put_on t.puts.mid groupers)
  keeps_mid n =
      subst (ParserKeeps job (shape_of steps n) me (now (reading_of job t.took)) (put_on t.puts.mid)) (sym merge_mid)
      (keeps_took job me parsers groupers captures sources finished outs i old before b t.took t.found t.takes number_took t.puts.mid t.puts.item n)

  marks_mid : (n : ℕ) → ParserMarks job (shape_of steps n) me (at_one c t.took.behind behind) (now (reading_of job t.took)) (put_on t.puts.mid)
  marks_mid n = marks_took job me parsers groupers captures sources finished outs i old before b t.took t.found t.takes number_took t.puts.mid t.puts.item n

  ended_took : (reading_of job t.took).ended ≡ false
  ended_took = ap (λ (r : Reading). r.ended) t.takes.reading ∙ chosen.going_was job me parsers groupers captures sources finished outs i old before b

  going_took : (now (reading_of job t.took) c).ended ≡ false
  going_took = ap (λ (r : Reading). r.ended) (one_here c (reading_of job t.took) read) ∙ ended_took

  mark_is : (m : PutsMark c groupers t.took t.puts.mid outs') → m.mark ≡ mark_of job c (now (reading_of job t.took) c).records
  mark_is m =
      m.newest job (reading_of job t.took).records (subst (λ (k : ℕ). Tallies job k t.took.tally (reading_of job t.took).records) number_took t.takes.stands.tallies)
      ∙ ap (λ (r : Reading). mark_of job c r.records) (sym (one_here c (reading_of job t.took) read))

  keeps_by : (n : ℕ) → May → ParserKeeps job (shape_of steps n) me (now (reading_of job t.took)) (put_on outs') (put_on outs' groupers)
  keeps_by n (inl m) =
      subst (ParserKeeps job (shape_of steps n) me (now (reading_of job t.took)) (put_on outs')) (sym m.2.merge)
      (marked job (shape_of steps n) me (now (reading_of job t.took)) (put_on t.puts.mid) (put_on outs') (put_on t.puts.mid groupers) (keeps_mid n) c own going_took m.2.mark (mark_is m.2) m.2.early m.2.marks)
  keeps_by n (inr m) =
      subst (λ (o : ShuffleSeen). ParserKeeps job (shape_of steps n) me (now (reading_of job t.took)) (put_on o) (put_on o groupers)) (sym m.2) (keeps_mid n)

  keeps_new : (n : ℕ) → ParserKeeps job (shape_of steps n) me (now (reading_of job new)) (put_on outs') (put_on outs' groupers)
  keeps_new n = subst (λ (r : Reading). ParserKeeps job (shape_of steps n) me (now r) (put_on outs') (put_on outs' groupers)) (sym reading_same) (keeps_by n t.puts.may)

  marks_by : (n : ℕ) → May → ParserMarks job (shape_of steps n) me (at_one c new.behind behind) (now (reading_of job t.took)) (put_on outs')
  marks_by n (inl m) =
      marks_marked job (shape_of steps n) me (at_one c t.took.behind behind) (at_one c new.behind behind) (now (reading_of job t.took)) (put_on t.puts.mid) (put_on outs') c m.2.mark (marks_mid n) own (mark_is m.2) m.2.marks
      (λ g less h. no_end job (shape_of steps n) me (now (reading_of job t.took)) (put_on t.puts.mid) (put_on t.puts.mid groupers) (keeps_mid n) c own going_took g less h)
      (one_here c new.behind behind ∙ ap (λ (x : OneCapture). x.behind) m.1) (λ d differ. one_there c new.behind behind d differ ∙ sym (one_there c t.took.behind behind d differ))
  marks_by n (inr m) =
      subst (λ (o : ShuffleSeen). ParserMarks job (shape_of steps n) me (at_one c new.behind behind) (now (reading_of job t.took)) (put_on o)) (sym m.2)
      (subst (λ (x : OneCapture). ParserMarks job (shape_of steps n) me (at_one c x.behind behind) (now (reading_of job t.took)) (put_on t.puts.mid)) (sym m.1) (marks_mid n))

  marks_new : (n : ℕ) → ParserMarks job (shape_of steps n) me (at_one c new.behind behind) (now (reading_of job new)) (put_on outs')
  marks_new n = subst (λ (r : Reading). ParserMarks job (shape_of steps n) me (at_one c new.behind behind) (now r) (put_on outs')) (sym reading_same) (marks_by n t.puts.may)

  near_by : May → new.behind < 32
  near_by (inl m) = omega (arith, ap (λ (x : OneCapture). x.behind) m.1)
  near_by (inr m) = omega (arith, ap (λ (x : OneCapture). x.behind) m.1, m.0)

  stands_by : May → CaptureStands job new
  stands_by (inl m) =
      let s = t.takes.stands in
      subst (CaptureStands job) (sym m.1) (record { stands = s.stands; tallies = s.tallies; behind = omega arith; asks = s.asks; read = s.read; held = s.held })
  stands_by (inr m) = subst (CaptureStands job) (sym m.1) t.takes.stands

  extra_by : (k : ℕ) → k < length outs.links → May → Extra 1 (put_on t.puts.mid k) (put_on outs' k)
  extra_by k less (inl m) =
      ⊎_elim
      (λ (below : k < groupers). by_one (Mark c m.2.mark) (put_on t.puts.mid k) (put_on outs' k) refl (m.2.marks k below))
      (λ (past : groupers ≤ k).
      let last : k ≡ groupers = omega (arith, past, less, b.holds.links) in
      more 0 1 (put_on t.puts.mid k) (put_on outs' k) (omega arith)
      (by_none (put_on t.puts.mid k) (put_on outs' k) (subst (λ (j : ℕ). put_on outs' j ≡ put_on t.puts.mid j) (sym last) m.2.merge)))
      (before_or_not k groupers)
  extra_by k less (inr m) = more 0 1 (put_on t.puts.mid k) (put_on outs' k) (omega arith) (by_none (put_on t.puts.mid k) (put_on outs' k) (ap (λ (o : ShuffleSeen). put_on o k) m.2))

  extra : (k : ℕ) → k < length outs.links → Extra 2 (put_on outs k) (put_on outs' k)
  extra k less =
      both 1 1 (put_on outs k) (put_on t.puts.mid k) (put_on outs' k) (by_found groupers k t.found (put_on outs k) (put_on t.puts.mid k) (t.puts.item k)) (extra_by k less t.puts.may)

  -- ---- its reading

  reading_is : reading_of job new ≡ record (reading_of job old) { records = (reading_of job old).records ++ t.takes.taken ∷ [] }
  reading_is = reading_same ∙ t.takes.reading

  records_more : length (reading_of job new).records ≡ length (reading_of job old).records + 1
  records_more = ap (λ (r : Reading). length r.records) reading_is ∙ length_push (reading_of job old).records t.takes.taken

  brief : length (reading_of job new).records ≤ capture_records
  brief =
      let next : t.takes.taken.number ≡ length (read c).records = number_next job me parsers groupers captures sources finished outs i old before b t.took t.found t.takes number_took in
      let was : length (read c).records ≡ length (reading_of job old).records =
      ap (λ (r : Reading). length r.records) (chosen.read_was job me parsers groupers captures sources finished outs i old before b) in
      let enough = few_records t.takes.taken.number t.takes.lawful.number in
      omega (arith, records_more, next, was, enough)

  read_still : IsReadOf None before (reading_of job new)
  read_still =
      let s = chosen.source_read job me parsers groupers captures sources finished outs i old before b in
      subst (IsReadOf None before) (sym reading_is) (record { front = s.front; left = s.left; whole = s.whole })

  reads_on : ReadingGoes (reading_of job old) (reading_of job new)
  reads_on =
      subst (ReadingGoes (reading_of job old)) (sym reading_is)
      (record {
        bytes = front_same (reading_of job old).bytes (reading_of job old).bytes refl;
        records = record { rest = t.takes.taken ∷ []; joined = refl };
        ended = λ ended. untold _ (sym (chosen.going_was job me parsers groupers captures sources finished outs i old before b) ∙ ended);
      })

  even_new : AreEven job (shape_of steps 0) me (now (reading_of job new))
  even_new =
      subst (λ (r : Reading). AreEven job (shape_of steps 0) me (now r)) (sym reading_same)
      (even_took job me parsers groupers captures sources finished outs i old before b t.took t.found t.takes number_took)

  pub counts : StepsOn steps (changed steps i before (reading_of job new) new.behind (bytes_held new.reading.reader)) 1 0
  counts =
      counts_on steps i before (reading_of job old) (reading_of job new) new.behind (bytes_held new.reading.reader) 1 0
      (chosen.there_read job me parsers groupers captures sources finished outs i old before b)
      (chosen.reading_was job me parsers groupers captures sources finished outs i old before b) records_more (ap (λ (r : Reading). one_if r.ended) reading_is ∙ omega arith)
      (chosen.unfinished job me parsers groupers captures sources finished outs i old before b)

  pub bytes_same : bytes_read (changed steps i before (reading_of job new) new.behind (bytes_held new.reading.reader)) ≡ bytes_read steps
  bytes_same =
      bytes_on steps i 0 before (reading_of job old) (reading_of job new) new.behind (bytes_held new.reading.reader)
      (chosen.there_read job me parsers groupers captures sources finished outs i old before b)
      (chosen.reading_was job me parsers groupers captures sources finished outs i old before b) (ap (λ (r : Reading). length r.bytes) reading_is ∙ omega arith)
      ∙ omega arith

  room : most_put steps + 2 ≤ most_put (changed steps i before (reading_of job new) new.behind (bytes_held new.reading.reader))
  room = let r = room_on steps (changed steps i before (reading_of job new) new.behind (bytes_held new.reading.reader)) 1 0 counts in omega (arith, r)

  told_none : {A : Type 0} → (reading_of job new).ended ≡ true → A
  told_none ended = untold _ (sym (ap (λ (r : Reading). r.ended) reading_is ∙ chosen.going_was job me parsers groupers captures sources finished outs i old before b) ∙ ended)

  pub captures_stand : AreCaptures job me parsers (slice_set captures i new)
  captures_stand =
      chosen.captures_stand job me parsers groupers captures sources finished outs i old before b outs' None new before 2 links kept (stands_by t.puts.may) number brief (near_by t.puts.may) extra keeps_new marks_new even_new read_still
      room (λ none ended. told_none ended) (λ none. chosen.source_quiet job me parsers groupers captures sources finished outs i old before b) (record { told = refl; whole = λ told. refl }) reads_on

  pub goes : Goes steps outs outs' None i before (reading_of job new) new.behind (bytes_held new.reading.reader)
  goes =
      chosen.goes job me parsers groupers captures sources finished outs i old before b outs' None new before 2 links kept (stands_by t.puts.may) number brief (near_by t.puts.may) extra keeps_new marks_new even_new read_still
      room (λ none ended. told_none ended) (λ none. chosen.source_quiet job me parsers groupers captures sources finished outs i old before b) (record { told = refl; whole = λ told. refl }) reads_on
