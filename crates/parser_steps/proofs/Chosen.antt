-- The capture that was chosen, and what is known of the others.
use Rattle.std.proofs.Common.{ℕ, ◌≡◌, ◌≢◌, ◌<◌, ◌≤◌, ◌+◌, ◌-◌, ◌*◌, ◌/◌, Bool, Option, None, true, false, List, [], ◌∷◌, length, map, refl, sym, ap, subst, ◌∙◌, arith, ⊎_elim}
use Rattle.std.specs.Prelude.{slice_index_or, slice_set, take}
use Rattle.std.proofs.lemmas.List.{length-map, length-set, length-take, get_or-map, get_or-set_same, get_or-set_other, map-set}
use Rattle.ds_base.specs.Outside.{SourceSeen, SourceStays}
use Rattle.credit_link.specs.declared.turn.NodeFault.{NodeFault}
use Rattle.shuffle_poll.specs.Shuffles.{ShuffleSeen, ShuffleHolds}
use Rattle.key_select.specs.Late.{greatest_time}
use Rattle.key_select.specs.Tally.{capture_of, newest_of, records_taken}
use Rattle.key_select.specs.Wanted.{good_of, wanted_of}
use Rattle.pcap_reader.specs.Captured.{Captured}
use Rattle.pcap_reader.specs.Lent.{AreFirst}
use Rattle.pcap_reader.specs.Reader.{bytes_held}
use Rattle.round_law.specs.Measure.{capture_bytes, piece_bytes, capture_records}
use Rattle.summary_spec.specs.Declaration.{Declared}
use Rattle.run_law.specs.Links.{HasEnded, HasRow}
use Rattle.run_law.specs.Nodes.{Reading, ParserKeeps, ParserMarks}
use Rattle.run_law.specs.Snapshot.{unread}
use Rattle.node_lanes.specs.Ends.{put_on}
use Rattle.net_law.specs.Parsers.{ParserSeen, ReadingGoes, IsOwn, IsReadOf, IsBehind, read_of, behind_of}
use Rattle.parser_captures.specs.Captures.{CaptureStands, reading_of, most_held}
use Rattle.parser_captures.specs.Choice.{IsLeast, capture_in}
use Rattle.parser_captures.specs.declared.capture.OneCapture.{OneCapture}
use Rattle.parser_captures.proofs.Keeping.{same_or_not}
use Rattle.parser_captures.proofs.Marking.{AreEven}
use Rattle.parser_captures.proofs.Taking.{untold, first_of}
use Rattle.parser_steps.specs.Seen.{StepsSeen, StepsStand, AreCaptures, seen_of, steps_of, most_put}
use Rattle.parser_steps.specs.Holds.{ParserHolds}
use Rattle.parser_steps.proofs.Bounds.{AreShort}
use Rattle.parser_steps.proofs.Changed.{Goes, changed, shape_of, at_one}
use Rattle.parser_steps.proofs.Extra.{Extra, is_front, stays_open, longer}
use Rattle.parser_steps.proofs.Places.{at_place, own_at}

-- ---- the captures

-- one capture was changed
pub one_changed : (job : Declared) (me parsers : ℕ) (captures : List OneCapture) (i : ℕ) (new : OneCapture) → AreCaptures job me parsers captures → CaptureStands job new
    → capture_of new.tally ≡ me + i * parsers → records_taken new.tally ≤ capture_records → AreCaptures job me parsers (slice_set captures i new)
one_changed job me parsers captures i new are stands own brief = record {
  stand = λ j d less. at (λ (k : ℕ) (c : OneCapture). CaptureStands job c) j d less stands (λ there. are.stand j d there);
  own = λ j d less. at (λ (k : ℕ) (c : OneCapture). capture_of c.tally ≡ me + k * parsers) j d less own (λ there. are.own j d there);
  brief = λ j d less. at (λ (k : ℕ) (c : OneCapture). records_taken c.tally ≤ capture_records) j d less brief (λ there. are.brief j d there);
}
  where
    at : (P : ℕ → OneCapture → Type 0) (j : ℕ) (d : OneCapture) → j < length (slice_set captures i new) → P i new → (j < length captures → P j (capture_in captures j d))
        → P j (capture_in (slice_set captures i new) j d)
    at P j d less here there =
        ⊎_elim
        (λ (is : j ≡ i).
        subst (λ (k : ℕ). P k (capture_in (slice_set captures i new) k d)) (sym is)
        (subst (P i) (sym (get_or-set_same captures i new d (omega (arith, less, length-set captures i new, is)))) here))
        (λ (differ : j ≢ i). subst (P j) (sym (get_or-set_other captures i j new d differ)) (there (omega (arith, less, length-set captures i new))))
        (same_or_not j i)

-- at most so many bytes and records were read of each
pub are_short : (job : Declared) (me parsers : ℕ) (captures : List OneCapture) → AreCaptures job me parsers captures → AreShort (map (reading_of job) captures)
are_short job me parsers captures are i d less =
    let there : i < length captures = omega (arith, less, length-map captures (reading_of job)) in
    let e : OneCapture = an_item captures i there in
    subst (λ (r : Reading). (length r.bytes ≤ capture_bytes + piece_bytes) × (length r.records ≤ capture_records)) (sym (get_or-map (reading_of job) captures i e d there))
    ((are.stand i e there).read, few (records_taken (capture_in captures i e).tally) (good_of job (capture_of (capture_in captures i e).tally) (capture_in captures i e).bytes.items).records (are.brief i e there))
  where
    an_item : (cs : List OneCapture) (i : ℕ) → i < length cs → OneCapture
    an_item [] i less = absurd (omega arith)
    an_item (c ∷ cs) i less = c

    few : (n : ℕ) (rs : List Captured) → n ≤ capture_records → length (take n rs) ≤ capture_records
    few n rs le = omega (arith, length-take n rs, le)

-- ---- the one that was chosen

-- A capture was chosen, and it and its source were changed.
pub record IsChosen (job : Declared) (me parsers groupers : ℕ) (captures : List OneCapture) (sources : List SourceSeen) (finished : Bool) (outs : ShuffleSeen) (i : ℕ) (old : OneCapture) (before : SourceSeen) : Type 0 where
  pub stand : StepsStand job me parsers groupers captures sources
  pub holds : ParserHolds (steps_of job me parsers groupers captures sources finished) outs None
  pub least : IsLeast captures (length captures) i
  pub was : (d : OneCapture) → capture_in captures i d ≡ old
  pub source_was : (d : SourceSeen) → slice_index_or sources i d ≡ before

module _ (job : Declared) (me parsers groupers : ℕ) (captures : List OneCapture) (sources : List SourceSeen) (finished : Bool) (outs : ShuffleSeen) (i : ℕ) (old : OneCapture) (before : SourceSeen)
    (b : IsChosen job me parsers groupers captures sources finished outs i old before) where
  abbrev pub steps : StepsSeen
  steps = steps_of job me parsers groupers captures sources finished

  abbrev pub seen : ParserSeen
  seen = seen_of steps outs None

  abbrev pub c : ℕ
  c = me + i * parsers

  pub place : me < parsers
  place = b.stand.place.0

  pub there : i < length captures
  there = b.least.there

  pub reads_long : length steps.reads ≡ length captures
  reads_long = length-map captures (reading_of job)

  pub there_read : i < length steps.reads
  there_read = omega (arith, there, reads_long)

  pub own : IsOwn seen c
  own = b.holds.stands.own i there_read

  pub number_was : capture_of old.tally ≡ c
  number_was = ap (λ (x : OneCapture). capture_of x.tally) (sym (b.was old)) ∙ b.stand.are.own i old there

  pub stands_was : CaptureStands job old
  stands_was = subst (CaptureStands job) (b.was old) (b.stand.are.stand i old there)

  pub going_was : old.ended ≡ false
  going_was = ap (λ (x : OneCapture). x.ended) (sym (b.was old)) ∙ b.least.going old

  pub reading_was : slice_index_or steps.reads i unread ≡ reading_of job old
  reading_was = get_or-map (reading_of job) captures i old unread there ∙ ap (reading_of job) (b.was old)

  pub read_was : read_of seen c ≡ reading_of job old
  read_was = ap (λ (k : ℕ). slice_index_or steps.reads k unread) (at_place me parsers i place) ∙ reading_was

  pub behind_at_was : slice_index_or steps.behind i 0 ≡ old.behind
  behind_at_was = get_or-map (λ (x : OneCapture). x.behind) captures i old 0 there ∙ ap (λ (x : OneCapture). x.behind) (b.was old)

  pub behind_was : behind_of seen c ≡ old.behind
  behind_was = ap (λ (k : ℕ). slice_index_or steps.behind k 0) (at_place me parsers i place) ∙ behind_at_was

  pub near_was : old.behind < 32
  near_was = subst (λ (n : ℕ). n < 32) behind_at_was (b.holds.near i)

  pub going : (read_of seen c).ended ≡ false
  going = ap (λ (r : Reading). r.ended) read_was ∙ going_was

  pub unfinished : finished ≡ false
  unfinished = by_flag finished (λ e. untold _ (sym going_was ∙ ap (λ (r : Reading). r.ended) (sym reading_was) ∙ b.holds.all e i unread there_read))
    where
      by_flag : (flag : Bool) → (flag ≡ true → flag ≡ false) → flag ≡ false
      by_flag true h = h refl
      by_flag false h = refl

  pub source_read : IsReadOf None before (reading_of job old)
  source_read =
      subst (λ (s : SourceSeen). IsReadOf None s (reading_of job old)) (b.source_was before)
      (subst (λ (r : Reading). IsReadOf None (slice_index_or sources i before) r) reading_was (b.holds.stands.read i before (omega (arith, there, b.stand.as_many))))

  pub source_quiet : before.faults ≡ 0
  source_quiet = ap (λ (s : SourceSeen). s.faults) (sym (b.source_was before)) ∙ (b.holds.stands.quiet refl).0 i before (omega (arith, there, b.stand.as_many))

  -- ---- the promises so far

  groupers_is : length outs.links - 1 ≡ groupers
  groupers_is = omega (arith, b.holds.links)

  pub keeps_was : (n : ℕ) → ParserKeeps job (shape_of steps n) me (read_of seen) (put_on outs) (put_on outs groupers)
  keeps_was n =
      subst (λ (g : ℕ). ParserKeeps job (record { parsers = parsers; groupers = g; processors = n }) me (read_of seen) (put_on outs) (put_on outs g)) groupers_is (b.holds.stands.keeps n)

  pub marks_were : (n : ℕ) → ParserMarks job (shape_of steps n) me (behind_of seen) (read_of seen) (put_on outs)
  marks_were n = subst (λ (g : ℕ). ParserMarks job (record { parsers = parsers; groupers = g; processors = n }) me (behind_of seen) (read_of seen) (put_on outs)) groupers_is (b.holds.stands.marks n)

  pub even_was : AreEven job (shape_of steps 0) me (read_of seen)
  even_was = b.holds.stands.even

  -- ---- its newest time is least

  newest_at : (j : ℕ) (d : OneCapture) → j < length captures → newest_of (capture_in captures j d).tally ≡ greatest_time job (me + j * parsers) (slice_index_or steps.reads j unread).records
  newest_at j d less =
      let x : OneCapture = capture_in captures j d in
      (b.stand.are.stand j d less).tallies.newest
      ∙ ap (λ (k : ℕ). greatest_time job k (reading_of job x).records) (b.stand.are.own j d less)
      ∙ ap (λ (r : Reading). greatest_time job (me + j * parsers) r.records) (sym (get_or-map (reading_of job) captures j d unread less))

  pub newest_is_least : (d : ℕ) → IsOwn seen d → (read_of seen d).ended ≡ false → IsBehind (greatest_time job c (read_of seen c).records) (greatest_time job d (read_of seen d).records)
  newest_is_least d own_d open' =
      let j : ℕ = d / parsers in
      let less : j < length captures = omega (arith, b.holds.stands.captures d own_d, reads_long) in
      let goes : (capture_in captures j old).ended ≡ false = ap (λ (r : Reading). r.ended) (sym (get_or-map (reading_of job) captures j old unread less)) ∙ open' in
      let here : newest_of (capture_in captures i old).tally ≡ greatest_time job c (read_of seen c).records =
      newest_at i old there ∙ ap (λ (k : ℕ). greatest_time job c (slice_index_or steps.reads k unread).records) (sym (at_place me parsers i place)) in
      let other : newest_of (capture_in captures j old).tally ≡ greatest_time job d (read_of seen d).records =
      newest_at j old less ∙ ap (λ (k : ℕ). greatest_time job k (slice_index_or steps.reads j unread).records) (sym (own_at me parsers d own_d.1)) in
      subst (λ (o : Option ℕ). IsBehind o (greatest_time job d (read_of seen d).records)) here
      (subst (λ (o : Option ℕ). IsBehind (newest_of (capture_in captures i old).tally) o) other (b.least.least j old less goes))

  -- ---- what goes on

  -- what was read of it is now this, and what was read of the others is as it was
  abbrev pub now : Reading → ℕ → Reading
  now reading = at_one c reading (read_of seen)

  pub first_now : (new : OneCapture) → CaptureStands job new → capture_of new.tally ≡ c → AreFirst (wanted_of job c) (reading_of job new).bytes (reading_of job new).records
  first_now new stands number = subst (λ (k : ℕ). AreFirst (wanted_of job k) (reading_of job new).bytes (reading_of job new).records) number (first_of job new stands)

  -- Each case has these.
  module _ (outs' : ShuffleSeen) (fault : Option NodeFault) (new : OneCapture) (after : SourceSeen) (most : ℕ) (links : outs'.links ≡ outs.links) (kept : ShuffleHolds outs'.links outs'.queues)
      (stands : CaptureStands job new) (number : capture_of new.tally ≡ c) (brief : length (reading_of job new).records ≤ capture_records) (near : new.behind < 32)
      (extra : (k : ℕ) → k < length outs.links → Extra most (put_on outs k) (put_on outs' k))
      (keeps : (n : ℕ) → ParserKeeps job (shape_of steps n) me (now (reading_of job new)) (put_on outs') (put_on outs' groupers))
      (marks : (n : ℕ) → ParserMarks job (shape_of steps n) me (at_one c new.behind (behind_of seen)) (now (reading_of job new)) (put_on outs'))
      (even : AreEven job (shape_of steps 0) me (now (reading_of job new)))
      (read : IsReadOf fault after (reading_of job new))
      (room : most_put steps + most ≤ most_put (changed steps i after (reading_of job new) new.behind (bytes_held new.reading.reader)))
      (told : fault ≡ None → (reading_of job new).ended ≡ true → ((g : ℕ) → g < groupers → HasEnded c (put_on outs' g)) × HasRow c (put_on outs' groupers))
      (quiet : fault ≡ None → after.faults ≡ 0) (stays : SourceStays before after) (reads_on : ReadingGoes (reading_of job old) (reading_of job new)) where
    brief_tally : records_taken new.tally ≤ capture_records
    brief_tally = omega (arith, stands.tallies.records, brief)

    pub captures_stand : AreCaptures job me parsers (slice_set captures i new)
    captures_stand = one_changed job me parsers captures i new b.stand.are stands number brief_tally

    pub held_few : bytes_held new.reading.reader ≤ 16781311
    unfolding most_held
    held_few = stands.held

    pub goes : Goes steps outs outs' fault i after (reading_of job new) new.behind (bytes_held new.reading.reader)
    goes = record {
      there = there_read;
      links = links;
      holds = kept;
      front = λ k less. is_front most (put_on outs k) (put_on outs' k) (extra k less);
      open' = λ k less. stays_open most (put_on outs k) (put_on outs' k) (extra k less) (b.holds.ending k less ∙ unfinished);
      going = unfinished;
      keeps = keeps;
      marks = marks;
      even = even;
      read = read;
      held_most = held_few;
      short = subst AreShort (map-set (reading_of job) captures i new) (are_short job me parsers (slice_set captures i new) captures_stand);
      near = near;
      few = λ k less. let l = longer most (put_on outs k) (put_on outs' k) (extra k less) in omega (arith, l, b.holds.few k less, room);
      told = told;
      quiet = quiet;
      stays = subst (λ (s : SourceSeen). SourceStays s after) (sym (b.source_was after)) stays;
      reads_on = subst (λ (r : Reading). ReadingGoes r (reading_of job new)) (sym reading_was) reads_on;
    }
