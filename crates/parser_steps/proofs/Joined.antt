-- A step with the chosen capture, from what became of it to what a step promises.
use Rattle.std.proofs.Common.{ℕ, ◌≡◌, ◌<◌, ◌+◌, ◌*◌, Bool, Option, Some, None, false, List, ◌++◌, length, map, refl, sym, ap, subst, ◌∙◌, arith, length-append}
use Rattle.std.specs.Prelude.{is_some, slice_index_or, slice_set}
use Rattle.std.proofs.lemmas.List.{map-set, length-set, get_or-set_same}
use Rattle.ds_base.specs.Faults.{Rose}
use Rattle.ds_base.specs.Outside.{SourceSeen}
use Rattle.ds_base.specs.declared.capture.Bad.{Bad}
use Rattle.credit_link.specs.declared.turn.NodeFault.{NodeFault}
use Rattle.credit_link.specs.declared.turn.NodeFault.TheVariants.{Malformed, Read as Unreadable, Write, Link, OutOfMemory}
use Rattle.shuffle_poll.specs.Shuffles.{ShuffleSeen, ShuffleHolds}
use Rattle.key_select.specs.Tally.{capture_of}
use Rattle.pcap_reader.specs.Reader.{bytes_held}
use Rattle.summary_spec.specs.Declaration.{Declared}
use Rattle.run_law.specs.Nodes.{Reading}
use Rattle.run_law.specs.Snapshot.{unread}
use Rattle.net_law.specs.Parsers.{ParserSeen, ParserMeets, IsMalformed, ReadingGoes, IsOwn, IsReadOf, read_of, source_of}
use Rattle.parser_captures.specs.Captures.{CaptureStands, StaysAs, reading_of}
use Rattle.parser_captures.specs.Choice.{IsLeast}
use Rattle.parser_captures.specs.declared.capture.OneCapture.{OneCapture}
use Rattle.parser_captures.proofs.Taking.{untold}
use Rattle.parser_steps.specs.Seen.{StepsSeen, StepsStand, AreCaptures, seen_of, steps_of, bytes_read}
use Rattle.parser_steps.specs.Holds.{ParserHolds}
use Rattle.parser_steps.specs.Steps.{StepsOn, StepsWell, StepsBadly}
use Rattle.parser_steps.specs.One.{ChangesOne, OneSteps, OneStops}
use Rattle.parser_steps.specs.declared.step.Stepped.{Stepped}
use Rattle.parser_steps.specs.declared.step.Stepped.TheVariants.{Took, Read, CaptureEnded, Ended}
use Rattle.parser_steps.proofs.Bounds.{one_if}
use Rattle.parser_steps.proofs.Changed.{Goes, changed, holds_on, goes_on}
use Rattle.parser_steps.proofs.Chosen as chosen
use Rattle.parser_steps.proofs.Chosen.{IsChosen}
use Rattle.parser_steps.proofs.Places.{at_place}
use Rattle.parser_steps.proofs.Recorded as recorded
use Rattle.parser_steps.proofs.Stilled as stilled
use Rattle.parser_steps.proofs.Stilled.{read_piece, read_stopped, read_lost, same_records, goes_same, goes_longer}
use Rattle.parser_steps.proofs.Whole as whole

-- the parts of a step are those of one change
steps_changed : (job : Declared) (me parsers groupers : ℕ) (captures : List OneCapture) (sources : List SourceSeen) (finished : Bool) (i : ℕ) (new : OneCapture) (after : SourceSeen)
    → steps_of job me parsers groupers (slice_set captures i new) (slice_set sources i after) finished
    ≡ changed (steps_of job me parsers groupers captures sources finished) i after (reading_of job new) new.behind (bytes_held new.reading.reader)
steps_changed job me parsers groupers captures sources finished i new after =
    ap (λ (rs : List Reading). with_lists rs (map (λ (c : OneCapture). c.behind) (slice_set captures i new)) (map (λ (c : OneCapture). bytes_held c.reading.reader) (slice_set captures i new)))
    (map-set (reading_of job) captures i new)
    ∙ ap (λ (ns : List ℕ). with_lists (slice_set (map (reading_of job) captures) i (reading_of job new)) ns (map (λ (c : OneCapture). bytes_held c.reading.reader) (slice_set captures i new)))
    (map-set (λ (c : OneCapture). c.behind) captures i new)
    ∙ ap (λ (ns : List ℕ). with_lists (slice_set (map (reading_of job) captures) i (reading_of job new)) (slice_set (map (λ (c : OneCapture). c.behind) captures) i new.behind) ns)
    (map-set (λ (c : OneCapture). bytes_held c.reading.reader) captures i new)
  where
    with_lists : List Reading → List ℕ → List ℕ → StepsSeen
    with_lists rs behind held = record {
      job = job;
      me = me;
      parsers = parsers;
      groupers = groupers;
      sources = slice_set sources i after;
      reads = rs;
      behind = behind;
      held = held;
      finished = finished;
    }

module _ (job : Declared) (me parsers groupers : ℕ) (captures captures' : List OneCapture) (sources sources' : List SourceSeen) (finished : Bool) (outs outs' : ShuffleSeen) (i : ℕ)
    (stand : StepsStand job me parsers groupers captures sources) (holds : ParserHolds (steps_of job me parsers groupers captures sources finished) outs None) (least : IsLeast captures (length captures) i) where
  abbrev c : ℕ
  c = me + i * parsers

  abbrev steps : StepsSeen
  steps = steps_of job me parsers groupers captures sources finished

  abbrev steps' : StepsSeen
  steps' = steps_of job me parsers groupers captures' sources' finished

  -- what a change says, whatever it was
  module _ (E : (old new : OneCapture) → (before after : SourceSeen) → Type 0) (ch : ChangesOne E c i captures captures' sources sources') where
    base : IsChosen job me parsers groupers captures sources finished outs i ch.old ch.before
    base = record { stand = stand; holds = holds; least = least; was = ch.was; source_was = ch.source_was }

    steps_are : steps' ≡ changed steps i ch.after (reading_of job ch.new) ch.new.behind (bytes_held ch.new.reading.reader)
    steps_are =
        ap (λ (cs : List OneCapture). steps_of job me parsers groupers cs sources' finished) ch.set
        ∙ ap (λ (ss : List SourceSeen). steps_of job me parsers groupers (slice_set captures i ch.new) ss finished) ch.source_set
        ∙ steps_changed job me parsers groupers captures sources finished i ch.new ch.after

    stand_on : AreCaptures job me parsers (slice_set captures i ch.new) → StepsStand job me parsers groupers captures' sources'
    stand_on are = record {
      place = stand.place;
      few = stand.few;
      are = subst (AreCaptures job me parsers) (sym ch.set) are;
      as_many = ap length ch.source_set ∙ length-set sources i ch.after ∙ stand.as_many ∙ sym (length-set captures i ch.new) ∙ ap length (sym ch.set);
    }

  abbrev Well : Stepped → Type 0
  Well stepped = StepsWell steps steps' outs outs' stepped × StepsStand job me parsers groupers captures' sources'

  abbrev On : Stepped → Type 0
  On stepped = ChangesOne (λ old new before after. OneSteps job c groupers old new before after outs outs' stepped) c i captures captures' sources sources'

  module _ (some : 0 < groupers) (links : outs'.links ≡ outs.links) (kept : ShuffleHolds outs'.links outs'.queues) where
    well_took : On Took → Well Took
    well_took ch =
        let E : OneCapture → OneCapture → SourceSeen → SourceSeen → Type 0 = λ old new before after. OneSteps job c groupers old new before after outs outs' Took in
        let b = base E ch in
        let own : capture_of ch.new.tally ≡ c = ch.own in
        let t = ch.how.1 in
        let goes = recorded.goes job me parsers groupers captures sources finished outs i ch.old ch.before b outs' ch.new links kept own some t in
        let reading : Reading = reading_of job ch.new in
        let held : ℕ = bytes_held ch.new.reading.reader in
        let are : steps' ≡ changed steps i ch.before reading ch.new.behind held = steps_are E ch ∙ ap (λ (s : SourceSeen). changed steps i s reading ch.new.behind held) ch.how.0 in (
          subst (λ (s : StepsSeen). StepsWell steps s outs outs' Took) (sym are)
              (record {
                holds = holds_on steps outs outs' None i ch.before reading ch.new.behind held holds goes;
                goes = goes_on steps outs outs' None i ch.before reading ch.new.behind held holds goes;
                links = links;
                steps = (
                  recorded.counts job me parsers groupers captures sources finished outs i ch.old ch.before b outs' ch.new links kept own some t,
                  recorded.bytes_same job me parsers groupers captures sources finished outs i ch.old ch.before b outs' ch.new links kept own some t,
                );
              }),
          stand_on E ch (recorded.captures_stand job me parsers groupers captures sources finished outs i ch.old ch.before b outs' ch.new links kept own some t),
        )

    well_ended : On CaptureEnded → Well CaptureEnded
    well_ended ch =
        let E : OneCapture → OneCapture → SourceSeen → SourceSeen → Type 0 = λ old new before after. OneSteps job c groupers old new before after outs outs' CaptureEnded in
        let b = base E ch in
        let own : capture_of ch.new.tally ≡ c = ch.own in
        let goes = whole.goes job me parsers groupers captures sources finished outs i ch.old ch.before b outs' ch.new ch.after links kept own ch.stays ch.how.0 ch.how.1 in
        let reading : Reading = reading_of job ch.new in
        let held : ℕ = bytes_held ch.new.reading.reader in (
          subst (λ (s : StepsSeen). StepsWell steps s outs outs' CaptureEnded) (sym (steps_are E ch))
              (record {
                holds = holds_on steps outs outs' None i ch.after reading ch.new.behind held holds goes;
                goes = goes_on steps outs outs' None i ch.after reading ch.new.behind held holds goes;
                links = links;
                steps = (
                  whole.counts job me parsers groupers captures sources finished outs i ch.old ch.before b outs' ch.new ch.after links kept own ch.stays ch.how.0 ch.how.1,
                  whole.bytes_same job me parsers groupers captures sources finished outs i ch.old ch.before b outs' ch.new ch.after links kept own ch.stays ch.how.0 ch.how.1,
                );
              }),
          stand_on E ch (whole.captures_stand job me parsers groupers captures sources finished outs i ch.old ch.before b outs' ch.new ch.after links kept own ch.stays ch.how.0 ch.how.1),
        )

  -- ---- nothing was put

  -- what is known of the capture and its source where nothing was put
  record Still (fault : Option NodeFault) (old new : OneCapture) (before after : SourceSeen) (more ends : ℕ) : Type 0 where
    stands : CaptureStands job new
    records : (reading_of job new).records ≡ (reading_of job old).records
    behind : new.behind ≡ old.behind
    read : IsReadOf fault after (reading_of job new)
    bytes : length (reading_of job new).bytes ≡ length (reading_of job old).bytes + more
    ended : one_if (reading_of job new).ended ≡ one_if (reading_of job old).ended + ends
    open' : fault ≡ None → (reading_of job new).ended ≡ false
    quiet : fault ≡ None → after.faults ≡ 0
    reads_on : ReadingGoes (reading_of job old) (reading_of job new)

  module _ (E : (old new : OneCapture) → (before after : SourceSeen) → Type 0) (ch : ChangesOne E c i captures captures' sources sources') (fault : Option NodeFault) (more ends : ℕ)
      (s : Still fault ch.old ch.new ch.before ch.after more ends) where
    still_goes : Goes steps outs outs fault i ch.after (reading_of job ch.new) ch.new.behind (bytes_held ch.new.reading.reader)
    still_goes =
        stilled.goes job me parsers groupers captures sources finished outs i ch.old ch.before (base E ch) fault ch.new ch.after ends more s.stands ch.own s.records s.behind s.read s.bytes s.ended s.open' s.quiet ch.stays s.reads_on

    still_counts : StepsOn steps (changed steps i ch.after (reading_of job ch.new) ch.new.behind (bytes_held ch.new.reading.reader)) 0 ends
    still_counts =
        stilled.counts job me parsers groupers captures sources finished outs i ch.old ch.before (base E ch) fault ch.new ch.after ends more s.stands ch.own s.records s.behind s.read s.bytes s.ended s.open' s.quiet ch.stays s.reads_on

    still_bytes : bytes_read (changed steps i ch.after (reading_of job ch.new) ch.new.behind (bytes_held ch.new.reading.reader)) ≡ bytes_read steps + more
    still_bytes =
        stilled.bytes_more job me parsers groupers captures sources finished outs i ch.old ch.before (base E ch) fault ch.new ch.after ends more s.stands ch.own s.records s.behind s.read s.bytes s.ended s.open' s.quiet ch.stays s.reads_on

    still_stand : StepsStand job me parsers groupers captures' sources'
    still_stand =
        stand_on E ch
        (stilled.captures_stand job me parsers groupers captures sources finished outs i ch.old ch.before (base E ch) fault ch.new ch.after ends more s.stands ch.own s.records s.behind s.read s.bytes s.ended s.open' s.quiet ch.stays
        s.reads_on)

    -- what was read of it, as the parser has it now
    read_now : read_of (seen_of (changed steps i ch.after (reading_of job ch.new) ch.new.behind (bytes_held ch.new.reading.reader)) outs fault) c ≡ reading_of job ch.new
    read_now =
        ap (λ (k : ℕ). slice_index_or (slice_set steps.reads i (reading_of job ch.new)) k unread) (at_place me parsers i stand.place.0)
        ∙ get_or-set_same steps.reads i (reading_of job ch.new) unread (chosen.there_read job me parsers groupers captures sources finished outs i ch.old ch.before (base E ch))

    own_now : IsOwn (seen_of steps outs None) c
    own_now = chosen.own job me parsers groupers captures sources finished outs i ch.old ch.before (base E ch)

    source_before : (d : SourceSeen) → source_of (seen_of steps outs None) c d ≡ ch.before
    source_before d = ap (λ (k : ℕ). slice_index_or sources k d) (at_place me parsers i stand.place.0) ∙ ch.source_was d

    source_after : (d : SourceSeen) → source_of (seen_of (changed steps i ch.after (reading_of job ch.new) ch.new.behind (bytes_held ch.new.reading.reader)) outs fault) c d ≡ ch.after
    source_after d =
        ap (λ (k : ℕ). slice_index_or (slice_set sources i ch.after) k d) (at_place me parsers i stand.place.0)
        ∙ get_or-set_same sources i ch.after d
        (let less : i < length captures = least.there in omega (arith, less, stand.as_many))

    still_holds : ParserHolds (changed steps i ch.after (reading_of job ch.new) ch.new.behind (bytes_held ch.new.reading.reader)) outs fault
    still_holds = holds_on steps outs outs fault i ch.after (reading_of job ch.new) ch.new.behind (bytes_held ch.new.reading.reader) holds still_goes

  open_was : (E : (old new : OneCapture) → (before after : SourceSeen) → Type 0) (ch : ChangesOne E c i captures captures' sources sources') → (reading_of job ch.old).ended ≡ false
  open_was E ch = chosen.going_was job me parsers groupers captures sources finished outs i ch.old ch.before (base E ch)

  number_was : (E : (old new : OneCapture) → (before after : SourceSeen) → Type 0) (ch : ChangesOne E c i captures captures' sources sources') → capture_of ch.old.tally ≡ c
  number_was E ch = chosen.number_was job me parsers groupers captures sources finished outs i ch.old ch.before (base E ch)

  well_read : On Read → Well Read
  well_read ch =
      let E : OneCapture → OneCapture → SourceSeen → SourceSeen → Type 0 = λ old new before after. OneSteps job c groupers old new before after outs outs' Read in
      let p = ch.how.1 in
      let was_open = open_was E ch in
      let open_now : (reading_of job ch.new).ended ≡ false = ap (λ (r : Reading). r.ended) p.reading ∙ was_open in
      let bytes : (reading_of job ch.new).bytes ≡ (reading_of job ch.old).bytes ++ p.piece = ap (λ (r : Reading). r.bytes) p.reading in
      let records : (reading_of job ch.new).records ≡ (reading_of job ch.old).records = ap (λ (r : Reading). r.records) p.reading in
      let s : Still None ch.old ch.new ch.before ch.after (length p.piece) 0 =
      record {
        stands = p.stands;
        records = records;
        behind = p.behind;
        read = read_piece ch.after (reading_of job ch.new) p.left open_now;
        bytes = ap length bytes ∙ length-append (reading_of job ch.old).bytes p.piece;
        ended = ap one_if (open_now ∙ sym was_open) ∙ omega arith;
        open' = λ none. open_now;
        quiet = λ none. ch.how.0 ∙ chosen.source_quiet job me parsers groupers captures sources finished outs i ch.old ch.before (base E ch);
        reads_on = goes_longer (reading_of job ch.old) (reading_of job ch.new) p.piece bytes records was_open;
      } in
      let goes = still_goes E ch None (length p.piece) 0 s in
      let reading : Reading = reading_of job ch.new in
      let held : ℕ = bytes_held ch.new.reading.reader in
      let rose : bytes_read (changed steps i ch.after reading ch.new.behind held) ≡ bytes_read steps + length p.piece = still_bytes E ch None (length p.piece) 0 s in
      let some : 0 < length p.piece = p.some in (
        subst (λ (o : ShuffleSeen). StepsWell steps steps' outs o Read) (sym ch.how.2)
            (subst (λ (x : StepsSeen). StepsWell steps x outs outs Read) (sym (steps_are E ch))
            (record {
              holds = holds_on steps outs outs None i ch.after reading ch.new.behind held holds goes;
              goes = goes_on steps outs outs None i ch.after reading ch.new.behind held holds goes;
              links = refl;
              steps = (still_counts E ch None (length p.piece) 0 s, omega (arith, rose, some));
            })),
        still_stand E ch None (length p.piece) 0 s,
      )

  pub well : (stepped : Stepped) → 0 < groupers → outs'.links ≡ outs.links → ShuffleHolds outs'.links outs'.queues → On stepped → Well stepped
  well Took some links kept ch = well_took some links kept ch
  well Read some links kept ch = well_read ch
  well CaptureEnded some links kept ch = well_ended some links kept ch
  well Ended some links kept ch = absurd ch.how

  -- ---- a fault

  abbrev Badly : NodeFault → Type 0
  Badly bad = StepsBadly steps steps' outs outs' bad × StepsStand job me parsers groupers captures' sources'

  abbrev Off : NodeFault → Type 0
  Off bad = ChangesOne (λ old new before after. (outs' ≡ outs) × OneStops job c old new before after bad) c i captures captures' sources sources'

  abbrev How : NodeFault → OneCapture → OneCapture → SourceSeen → SourceSeen → Type 0
  How bad old new before after = (outs' ≡ outs) × OneStops job c old new before after bad

  -- whatever the fault was
  stopped : (bad : NodeFault) (ch : Off bad) (ends : ℕ) (s : Still (Some bad) ch.old ch.new ch.before ch.after 0 ends)
      → ParserMeets (seen_of steps outs None) (seen_of (changed steps i ch.after (reading_of job ch.new) ch.new.behind (bytes_held ch.new.reading.reader)) outs (Some bad)) bad → Badly bad
  stopped bad ch ends s meets = (
    subst (λ (o : ShuffleSeen). StepsBadly steps steps' outs o bad) (sym ch.how.0)
        (subst (λ (x : StepsSeen). StepsBadly steps x outs outs bad) (sym (steps_are (How bad) ch))
        (record {
          holds = still_holds (How bad) ch (Some bad) 0 ends s;
          goes = goes_on steps outs outs (Some bad) i ch.after (reading_of job ch.new) ch.new.behind (bytes_held ch.new.reading.reader) holds (still_goes (How bad) ch (Some bad) 0 ends s);
          unput = refl;
          causes = meets;
        })),
    still_stand (How bad) ch (Some bad) 0 ends s,
  )

  is_some_fault : (bad : NodeFault) {A : Type 0} → Some bad ≡ None → A
  is_some_fault bad e = untold _ (sym (ap (λ (o : Option NodeFault). is_some o) e))

  still_by : (bad : NodeFault) (ch : Off bad) (ends : ℕ) → StaysAs job ch.old ch.new → IsReadOf (Some bad) ch.after (reading_of job ch.new) → one_if ch.new.ended ≡ one_if ch.old.ended + ends
      → Still (Some bad) ch.old ch.new ch.before ch.after 0 ends
  still_by bad ch ends stays read ended =
      let records : (reading_of job ch.new).records ≡ (reading_of job ch.old).records = same_records job ch.old ch.new stays.bytes stays.records (ch.own ∙ sym (number_was (How bad) ch)) in
      record {
        stands = stays.stands;
        records = records;
        behind = stays.behind;
        read = read;
        bytes = ap length stays.bytes ∙ omega arith;
        ended = ended;
        open' = λ none. is_some_fault bad none;
        quiet = λ none. is_some_fault bad none;
        reads_on = goes_same (reading_of job ch.old) (reading_of job ch.new) stays.bytes records (open_was (How bad) ch);
      }

  -- a capture's end is one more end, or none
  ends_by : (was is : Bool) → was ≡ false → one_if is ≡ one_if was + one_if is
  ends_by was is e = let none : one_if was ≡ 0 = ap one_if e in omega (arith, none)

  badly_malformed : (capture : ℕ) (b : Bad) → Off (Malformed capture b) → Badly (Malformed capture b)
  badly_malformed capture b ch =
      let bad : NodeFault = Malformed capture b in
      let stop = ch.how.1.1 in
      let ends : ℕ = one_if ch.new.ended in
      let s = still_by bad ch ends stop.1 (read_stopped bad ch.before ch.after (reading_of job ch.new) ch.stays stop.3 stop.4) (ends_by ch.old.ended ch.new.ended (open_was (How bad) ch)) in
      let here : IsMalformed job c (reading_of job ch.new) b = subst (λ (k : ℕ). IsMalformed job k (reading_of job ch.new) b) (number_was (How bad) ch) stop.2 in
      let now : ParserSeen = seen_of (changed steps i ch.after (reading_of job ch.new) ch.new.behind (bytes_held ch.new.reading.reader)) outs (Some bad) in
      stopped bad ch ends s
      (subst (λ (k : ℕ). IsOwn (seen_of steps outs None) k × IsMalformed job k (read_of now k) b) (sym ch.how.1.0)
      (own_now (How bad) ch (Some bad) 0 ends s, subst (λ (r : Reading). IsMalformed job c r b) (sym (read_now (How bad) ch (Some bad) 0 ends s)) here))

  badly_unread : (capture : ℕ) → Off (Unreadable capture) → Badly (Unreadable capture)
  badly_unread capture ch =
      let bad : NodeFault = Unreadable capture in
      let stop = ch.how.1.1 in
      let was_open : ch.old.ended ≡ false = open_was (How bad) ch in
      let s = still_by bad ch 0 stop.1
      (read_stopped bad ch.before ch.after (reading_of job ch.new) ch.stays stop.3 (λ ended told. untold _ (sym (stop.2 ∙ was_open) ∙ ended))) (ap one_if stop.2 ∙ omega arith) in
      let now : ParserSeen = seen_of (changed steps i ch.after (reading_of job ch.new) ch.new.behind (bytes_held ch.new.reading.reader)) outs (Some bad) in
      stopped bad ch 0 s
      (subst (λ (k : ℕ). IsOwn (seen_of steps outs None) k × ((d : SourceSeen) → Rose (source_of (seen_of steps outs None) k d).faults (source_of now k d).faults)) (sym ch.how.1.0) (
        own_now (How bad) ch (Some bad) 0 0 s,
        λ d.
            subst (λ (x : SourceSeen). Rose x.faults (source_of now c d).faults) (sym (source_before (How bad) ch (Some bad) 0 0 s d))
            (subst (λ (x : SourceSeen). Rose ch.before.faults x.faults) (sym (source_after (How bad) ch (Some bad) 0 0 s d)) stop.0),
      ))

  badly_lost : Off OutOfMemory → Badly OutOfMemory
  badly_lost ch =
      let stop = ch.how.1 in
      let was_open : ch.old.ended ≡ false = open_was (How OutOfMemory) ch in
      let was_read = chosen.source_read job me parsers groupers captures sources finished outs i ch.old ch.before (base (How OutOfMemory) ch) in
      let s = still_by OutOfMemory ch 0 stop.1
      (read_lost OutOfMemory ch.before ch.after (reading_of job ch.old) (reading_of job ch.new) ch.stays was_read stop.1.bytes (stop.2 ∙ was_open)) (ap one_if stop.2 ∙ omega arith) in
      stopped OutOfMemory ch 0 s tt

  pub badly : (bad : NodeFault) → Off bad → Badly bad
  badly (Malformed capture b) ch = badly_malformed capture b ch
  badly (Unreadable capture) ch = badly_unread capture ch
  badly Write ch = absurd ch.how.1
  badly (Link link b) ch = absurd ch.how.1
  badly OutOfMemory ch = badly_lost ch
