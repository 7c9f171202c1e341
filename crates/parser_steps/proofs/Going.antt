-- The chosen capture goes on: records of it were taken up, or bytes read, or it was stopped.
use Rattle.std.proofs.Common.{ℕ, ◌≡◌, ◌≢◌, ◌<◌, ◌≤◌, ◌+◌, ◌*◌, Bool, Option, Some, None, inl, true, false, List, [], ◌∷◌, ◌++◌, length, refl, sym, ap, subst, ◌∙◌, arith, append-nil, ⊎_elim}
use Rattle.std.specs.Prelude.{◌^◌, option_to_list}
use Rattle.std.specs.List.{AllByRecursion}
use Rattle.std.proofs.lemmas.Bool.{eqb-true}
use Rattle.ds_base.specs.Fronts.{IsIn}
use Rattle.ds_base.specs.Keys.{shard_of}
use Rattle.ds_base.specs.Outside.{SourceSeen}
use Rattle.ds_base.specs.declared.summary.Summary.{Summary}
use Rattle.shuffle_poll.specs.Shuffles.{ShuffleSeen}
use Rattle.key_select.specs.Fates.{accepted_after}
use Rattle.key_select.specs.Times.{record_time}
use Rattle.key_select.specs.Wanted.{wanted_of}
use Rattle.key_select.specs.Tally.{capture_of}
use Rattle.pcap_reader.specs.Lent.{AreFirst}
use Rattle.summary_spec.specs.Declaration.{Declared}
use Rattle.run_law.specs.Links.{IsItemOf}
use Rattle.run_law.specs.Nodes.{Reading, ParserKeeps, ParserMarks}
use Rattle.run_law.specs.Shapes.{IsCaptureOf, is_of_shard}
use Rattle.node_lanes.specs.Ends.{put_on}
use Rattle.net_law.specs.Parsers.{read_of, behind_of}
use Rattle.parser_captures.specs.Captures.{CaptureStands, TakesRecord, reading_of}
use Rattle.parser_captures.specs.Puts.{frames_for}
use Rattle.parser_captures.specs.Steps.{MayBePut, GoesOn}
use Rattle.parser_captures.specs.declared.capture.OneCapture.{OneCapture}
use Rattle.parser_captures.proofs.Going.{goes_on}
use Rattle.parser_captures.proofs.Keeping.{item_follows, same_or_not}
use Rattle.parser_captures.proofs.Marking.{AreEven, marks_on, even_on, even_stays}
use Rattle.parser_steps.specs.Seen.{StepsSeen}
use Rattle.parser_steps.proofs.Accepted.{IsSummaryOf, accepted_one, number_of_next, lower_numbers}
use Rattle.parser_steps.proofs.Changed.{shape_of, at_one, one_here, one_there}
use Rattle.parser_steps.proofs.Chosen as chosen
use Rattle.parser_steps.proofs.Chosen.{IsChosen}

module _ (job : Declared) (me parsers groupers : ℕ) (captures : List OneCapture) (sources : List SourceSeen) (finished : Bool) (outs : ShuffleSeen) (i : ℕ) (old : OneCapture) (before : SourceSeen)
    (b : IsChosen job me parsers groupers captures sources finished outs i old before) where
  abbrev c : ℕ
  c = me + i * parsers

  abbrev steps : StepsSeen
  steps = chosen.steps job me parsers groupers captures sources finished outs i old before b

  abbrev read : ℕ → Reading
  read = read_of (chosen.seen job me parsers groupers captures sources finished outs i old before b)

  abbrev behind : ℕ → ℕ
  behind = behind_of (chosen.seen job me parsers groupers captures sources finished outs i old before b)

  abbrev now : Reading → ℕ → Reading
  now reading = at_one c reading read

  own : IsCaptureOf (length job.captures) (shape_of steps 0) me c
  own = chosen.own job me parsers groupers captures sources finished outs i old before b

  going : (read c).ended ≡ false
  going = chosen.going job me parsers groupers captures sources finished outs i old before b

  read_was : read c ≡ reading_of job old
  read_was = chosen.read_was job me parsers groupers captures sources finished outs i old before b

  number_was : capture_of old.tally ≡ c
  number_was = chosen.number_was job me parsers groupers captures sources finished outs i old before b

  keeps_was : (n : ℕ) → ParserKeeps job (shape_of steps n) me read (put_on outs) (put_on outs groupers)
  keeps_was n = chosen.keeps_was job me parsers groupers captures sources finished outs i old before b n

  marks_were : (n : ℕ) → ParserMarks job (shape_of steps n) me behind read (put_on outs)
  marks_were n = chosen.marks_were job me parsers groupers captures sources finished outs i old before b n

  even_was : AreEven job (shape_of steps 0) me read
  even_was = chosen.even_was job me parsers groupers captures sources finished outs i old before b

  -- ---- nothing was taken up

  module _ (new : OneCapture) (stands : CaptureStands job new) (number : capture_of new.tally ≡ c) (records : (reading_of job new).records ≡ (reading_of job old).records)
      (behind_same : new.behind ≡ old.behind) where
    records_now : (d : ℕ) → (now (reading_of job new) d).records ≡ (read d).records
    records_now d =
        ⊎_elim
        (λ (is : d ≡ c).
        subst (λ (k : ℕ). (now (reading_of job new) k).records ≡ (read k).records) (sym is)
        (ap (λ (r : Reading). r.records) (one_here c (reading_of job new) read) ∙ records ∙ ap (λ (r : Reading). r.records) (sym read_was)))
        (λ (differ : d ≢ c). ap (λ (r : Reading). r.records) (one_there c (reading_of job new) read d differ))
        (same_or_not d c)

    stays_on : (n : ℕ) → GoesOn job (shape_of steps n) me read (now (reading_of job new)) (put_on outs) (put_on outs) c [] None
    stays_on n = record {
      own = own;
      going = going;
      records = records_now c ∙ sym (append-nil (read c).records);
      others = λ d differ. one_there c (reading_of job new) read d differ;
      first = subst (λ (r : Reading). AreFirst (wanted_of job c) r.bytes r.records) (sym (one_here c (reading_of job new) read))
          (chosen.first_now job me parsers groupers captures sources finished outs i old before b new stands number);
      accepted = refl;
      own_found = tt;
      may = tt;
      frames = λ g less. sym (append-nil (put_on outs g));
    }

    pub keeps_still : (n : ℕ) → ParserKeeps job (shape_of steps n) me (now (reading_of job new)) (put_on outs) (put_on outs groupers)
    keeps_still n = goes_on job (shape_of steps n) me read (now (reading_of job new)) (put_on outs) (put_on outs) (put_on outs groupers) c [] None (keeps_was n) (stays_on n)

    behind_here : at_one c new.behind behind c ≡ behind c
    behind_here = one_here c new.behind behind ∙ behind_same ∙ sym (chosen.behind_was job me parsers groupers captures sources finished outs i old before b)

    pub marks_still : (n : ℕ) → ParserMarks job (shape_of steps n) me (at_one c new.behind behind) (now (reading_of job new)) (put_on outs)
    marks_still n =
        marks_on job (shape_of steps n) me behind (at_one c new.behind behind) read (now (reading_of job new)) (put_on outs) (put_on outs) c [] None (marks_were n) (stays_on n)
        (omega (arith, behind_here)) (λ d differ. one_there c new.behind behind d differ)
        (let few : behind c ≤ 32 = (marks_were n).few c own in omega (arith, few, behind_here))

    pub even_still : AreEven job (shape_of steps 0) me (now (reading_of job new))
    even_still = even_stays job (shape_of steps 0) me read (now (reading_of job new)) even_was records_now ended_back
      where
        ended_back : (d : ℕ) → (now (reading_of job new) d).ended ≡ false → (read d).ended ≡ false
        ended_back d open' =
            ⊎_elim
            (λ (is : d ≡ c). ap (λ (k : ℕ). (read k).ended) is ∙ going)
            (λ (differ : d ≢ c). ap (λ (r : Reading). r.ended) (sym (one_there c (reading_of job new) read d differ)) ∙ open')
            (same_or_not d c)

  -- ---- a record was taken up

  module _ (took : OneCapture) (found : Option Summary) (takes : TakesRecord job old took found) (number : capture_of took.tally ≡ c) where
    records_took : (now (reading_of job took) c).records ≡ (read c).records ++ takes.taken ∷ []
    records_took =
        ap (λ (x : Reading). x.records) (one_here c (reading_of job took) read)
        ∙ ap (λ (x : Reading). x.records) takes.reading
        ∙ ap (λ (x : Reading). x.records ++ takes.taken ∷ []) (sym read_was)

    first_took : AreFirst (wanted_of job c) (reading_of job took).bytes (reading_of job took).records
    first_took = chosen.first_now job me parsers groupers captures sources finished outs i old before b took takes.stands number

    pub number_next : takes.taken.number ≡ length (read c).records
    number_next =
        number_of_next (wanted_of job c) (reading_of job took).bytes (read c).records takes.taken
        (subst (AreFirst (wanted_of job c) (reading_of job took).bytes) (ap (λ (x : Reading). x.records) takes.reading ∙ ap (λ (x : Reading). x.records ++ takes.taken ∷ []) (sym read_was)) first_took)

    accepted_at : option_to_list found ≡ accepted_after job c (read c).records (takes.taken ∷ [])
    accepted_at =
        takes.accepted
        ∙ ap (λ (k : ℕ). accepted_after job k (reading_of job old).records (takes.taken ∷ [])) number_was
        ∙ ap (λ (x : Reading). accepted_after job c x.records (takes.taken ∷ [])) (sym read_was)

    are_of_it : AllByRecursion (IsSummaryOf job c takes.taken) (option_to_list found)
    are_of_it = subst (AllByRecursion (IsSummaryOf job c takes.taken)) (sym accepted_at) (accepted_one job c (read c).records takes.taken)

    early_here : record_time job c takes.taken < 2 ^ 63
    early_here = subst (λ (k : ℕ). record_time job k takes.taken < 2 ^ 63) number_was takes.early

    item_is : (n g : ℕ) (s : Summary) → IsSummaryOf job c takes.taken s → is_of_shard g groupers s.key ≡ true → IsItemOf job (shape_of steps n) me g s
    item_is n g s is shard = record {
      stamp = record {
        time = subst (λ (t : ℕ). t < 2 ^ 63) (sym is.time) early_here;
        capture = subst (λ (k : ℕ). k < length job.captures) (sym is.capture) own.0;
        number = subst (λ (k : ℕ). k < 2 ^ 40) (sym is.number) takes.lawful.number;
      };
      capture = subst (IsCaptureOf (length job.captures) (shape_of steps n) me) (sym is.capture) own;
      values = is.values ∙ b.holds.stands.job_is.takes;
      key = is.key;
      shard = eqb-true (shard_of s.key groupers) g shard;
    }

    may_put : (n : ℕ) (o : Option Summary) → option_to_list o ≡ accepted_after job c (read c).records (takes.taken ∷ []) → AllByRecursion (IsSummaryOf job c takes.taken) (option_to_list o)
        → MayBePut job (shape_of steps n) me (put_on outs) o
    may_put n None e all = tt
    may_put n (Some s) e all = λ g less shard.
        item_follows job (shape_of steps n) me read (put_on outs) (put_on outs groupers) (keeps_was n) c own going (takes.taken ∷ []) s (subst (λ (ss : List Summary). IsIn s ss) e (inl refl)) all.0.capture
        (λ t there.
        let lower : t.at.number < length (read c).records = lower_numbers job c (wanted_of job c) (read c).bytes (read c).records t ((keeps_was n).first c own) there in
        omega (arith, lower, number_next, all.0.number))
        g less (item_is n g s all.0 shard)

    own_found : (o : Option Summary) → AllByRecursion (IsSummaryOf job c takes.taken) (option_to_list o) → AllByRecursion (λ (s : Summary). s.at.capture ≡ c) (option_to_list o)
    own_found None all = tt
    own_found (Some s) all = (all.0.capture, tt)

    module _ (mid : ShuffleSeen) (item : (k : ℕ) → put_on mid k ≡ put_on outs k ++ frames_for groupers k found) where
      took_on : (n : ℕ) → GoesOn job (shape_of steps n) me read (now (reading_of job took)) (put_on outs) (put_on mid) c (takes.taken ∷ []) found
      took_on n = record {
        own = own;
        going = going;
        records = records_took;
        others = λ d differ. one_there c (reading_of job took) read d differ;
        first = subst (λ (x : Reading). AreFirst (wanted_of job c) x.bytes x.records) (sym (one_here c (reading_of job took) read)) first_took;
        accepted = accepted_at;
        own_found = own_found found are_of_it;
        may = may_put n found accepted_at are_of_it;
        frames = λ g less. item g;
      }

      pub keeps_took : (n : ℕ) → ParserKeeps job (shape_of steps n) me (now (reading_of job took)) (put_on mid) (put_on outs groupers)
      keeps_took n =
          goes_on job (shape_of steps n) me read (now (reading_of job took)) (put_on outs) (put_on mid) (put_on outs groupers) c (takes.taken ∷ []) found (keeps_was n) (took_on n)

      behind_took : at_one c took.behind behind c ≡ behind c + 1
      behind_took = one_here c took.behind behind ∙ takes.behind ∙ ap (λ (n : ℕ). n + 1) (sym (chosen.behind_was job me parsers groupers captures sources finished outs i old before b))

      pub marks_took : (n : ℕ) → ParserMarks job (shape_of steps n) me (at_one c took.behind behind) (now (reading_of job took)) (put_on mid)
      marks_took n =
          let near : old.behind < 32 = chosen.near_was job me parsers groupers captures sources finished outs i old before b in
          marks_on job (shape_of steps n) me behind (at_one c took.behind behind) read (now (reading_of job took)) (put_on outs) (put_on mid) c (takes.taken ∷ []) found (marks_were n) (took_on n)
          behind_took (λ d differ. one_there c took.behind behind d differ) (omega (arith, one_here c took.behind behind, takes.behind, near))

    pub even_took : AreEven job (shape_of steps 0) me (now (reading_of job took))
    even_took =
        even_on job (shape_of steps 0) me read (now (reading_of job took)) c takes.taken even_was own going records_took (λ d differ. one_there c (reading_of job took) read d differ)
        (λ d own_d open'. chosen.newest_is_least job me parsers groupers captures sources finished outs i old before b d own_d open')
