-- All captures have ended, and the end was put on each link.
use Rattle.std.proofs.Common.{ℕ, ◌≡◌, ◌<◌, ◌≤◌, ◌+◌, ◌-◌, Bool, Option, None, inl, inr, true, false, List, [], ◌∷◌, ◌++◌, length, map, refl, sym, ap, subst, ◌∙◌, arith, append-nil, length-append, ⊎_elim}
use Rattle.std.specs.Prelude.{All, is_some, ◌||◌, if◌then◌else◌, slice_index_or}
use Rattle.std.proofs.lemmas.Bool.{cases_Bool}
use Rattle.std.proofs.lemmas.List.{length-map, get_or-map}
use Rattle.ds_base.specs.Fronts.{IsIn}
use Rattle.credit_link.specs.Ends.{TxSeen}
use Rattle.credit_link.specs.Frames.{has_finish, is_finish}
use Rattle.credit_link.specs.declared.turn.NodeFault.{NodeFault}
use Rattle.node_frames.specs.declared.frame.Frame.{Frame}
use Rattle.node_frames.specs.declared.frame.Frame.TheVariants.{Finish, CaptureEnd, CountsRow}
use Rattle.shuffle_poll.specs.Shuffles.{ShuffleSeen, ShuffleHolds}
use Rattle.summary_spec.specs.Declaration.{Declared}
use Rattle.run_law.specs.Links.{HasEnded, HasRow}
use Rattle.run_law.specs.Nodes.{Reading, ParserKeeps, ParserMarks}
use Rattle.run_law.specs.Snapshot.{unread}
use Rattle.run_law.proofs.Lists.{in_left}
use Rattle.node_lanes.specs.Ends.{put_on}
use Rattle.node_lanes.proofs.Listed.{front_same}
use Rattle.node_lanes.proofs.Going.{outs_same}
use Rattle.net_law.specs.Ends.{no_tx}
use Rattle.net_law.specs.Parsers.{ParserSeen, ParserStands, ParserGoes, IsOwn, HasReadAll, shape_with, groupers_of, place_of, read_of, behind_of}
use Rattle.parser_captures.specs.Captures.{reading_of}
use Rattle.parser_captures.specs.Choice.{capture_in}
use Rattle.parser_captures.specs.declared.capture.OneCapture.{OneCapture}
use Rattle.parser_captures.proofs.Ending.{finished}
use Rattle.parser_captures.proofs.Marking.{marks_ended}
use Rattle.parser_captures.proofs.Taking.{untold}
use Rattle.parser_steps.specs.Seen.{StepsSeen, seen_of, most_put}
use Rattle.parser_steps.specs.Holds.{ParserHolds, IsTold}
use Rattle.parser_steps.specs.Steps.{StepsWell}
use Rattle.parser_steps.specs.declared.step.Stepped.TheVariants.{Ended}
use Rattle.parser_steps.proofs.Bounds.{one_if, offers, captures_few}
use Rattle.parser_steps.proofs.Changed.{shape_of, outs_go}

-- ---- the end among frames

is_by : (f : Frame) (b : Bool) → Finish ≡ f → (is_finish f || b) ≡ true
is_by f b e = ap (λ (g : Frame). is_finish g || b) (sym e)

or_true : (b : Bool) → (b || true) ≡ true
or_true true = refl
or_true false = refl

-- where the end was put, it is among the frames
in_has : (xs : List Frame) → IsIn Finish xs → has_finish xs ≡ true
in_has [] h = absurd h
in_has (x ∷ xs) (inl e) = is_by x (has_finish xs) e
in_has (x ∷ xs) (inr h) = ap (λ (b : Bool). is_finish x || b) (in_has xs h) ∙ or_true (is_finish x)

has_last : (xs : List Frame) → has_finish (xs ++ Finish ∷ []) ≡ true
has_last [] = refl
has_last (x ∷ xs) = ap (λ (b : Bool). is_finish x || b) (has_last xs) ∙ or_true (is_finish x)

-- ---- all captures have ended

pub all_read : (job : Declared) (captures : List OneCapture) → ((j : ℕ) (d : OneCapture) → j < length captures → (capture_in captures j d).ended ≡ true)
    → All (λ (r : Reading). r.ended ≡ true) (map (reading_of job) captures)
all_read job captures each j d less =
    let there : j < length captures = omega (arith, less, length-map captures (reading_of job)) in
    let e : OneCapture = an_item captures j there in
    ap (λ (r : Reading). r.ended) (get_or-map (reading_of job) captures j e d there) ∙ each j e there
  where
    an_item : (cs : List OneCapture) (i : ℕ) → i < length cs → OneCapture
    an_item [] i less = absurd (omega arith)
    an_item (c ∷ cs) i less = c

module _ (steps : StepsSeen) (outs : ShuffleSeen) (h : ParserHolds steps outs None) (all : HasReadAll (seen_of steps outs None)) where
  -- nothing is put any more
  module _ (was : steps.finished ≡ true) where
    same_steps : Path StepsSeen (record steps { finished = true }) steps
    same_steps = ap (λ (b : Bool). record steps { finished = b }) (sym was)

    pub still_holds : ParserHolds (record steps { finished = true }) outs None
    still_holds = subst (λ (s : StepsSeen). ParserHolds s outs None) (sym same_steps) h

  -- the end is put
  module _ (outs' : ShuffleSeen) (was : steps.finished ≡ false) (links : outs'.links ≡ outs.links) (kept : ShuffleHolds outs'.links outs'.queues)
      (put : (k : ℕ) → k < length outs.links → put_on outs' k ≡ put_on outs k ++ Finish ∷ []) where
    abbrev old : ParserSeen
    old = seen_of steps outs None

    abbrev ended : StepsSeen
    ended = record steps { finished = true }

    abbrev new : ParserSeen
    new = seen_of ended outs' None

    groupers_is : length outs.links - 1 ≡ steps.groupers
    groupers_is = omega (arith, h.links)

    groupers_now : length outs'.links - 1 ≡ steps.groupers
    groupers_now = omega (arith, h.links, ap length links)

    own_ended : (c : ℕ) → IsOwn old c → (read_of old c).ended ≡ true
    own_ended c own = all (place_of old c) unread (h.stands.captures c own)

    told : (c : ℕ) → IsOwn old c → IsTold old c
    told c own = h.told refl c own (own_ended c own)

    ends_told : (g c : ℕ) → g < steps.groupers → IsOwn old c → HasEnded c (put_on outs g)
    ends_told g c less own = (told c own).ends g (omega (arith, less, groupers_is))

    none_yet : (k : ℕ) → k < length outs.links → IsIn Finish (put_on outs k) → ⊥
    none_yet k less there = untold _ (sym (h.ending k less ∙ was) ∙ in_has (put_on outs k) there)

    keeps_was : (n : ℕ) → ParserKeeps steps.job (shape_of steps n) steps.me (read_of old) (put_on outs) (put_on outs steps.groupers)
    keeps_was n =
        subst (λ (g : ℕ). ParserKeeps steps.job (record { parsers = steps.parsers; groupers = g; processors = n }) steps.me (read_of old) (put_on outs) (put_on outs g)) groupers_is (h.stands.keeps n)

    keeps_new : (n : ℕ) → ParserKeeps steps.job (shape_with new n) steps.me (read_of new) (put_on outs') (put_on outs' (groupers_of new))
    keeps_new n =
        subst (λ (g : ℕ). ParserKeeps steps.job (record { parsers = steps.parsers; groupers = g; processors = n }) steps.me (read_of new) (put_on outs') (put_on outs' g)) (sym groupers_now)
        (finished steps.job (shape_of steps n) steps.me (read_of old) (put_on outs) (put_on outs') (put_on outs steps.groupers) (put_on outs' steps.groupers) (keeps_was n)
        (λ g c less own. ends_told g c less own)
        (λ c own. subst (λ (g : ℕ). HasRow c (put_on outs g)) groupers_is (told c own).row)
        (λ g less. none_yet g (omega (arith, less, h.links)))
        (none_yet steps.groupers (omega (arith, h.links)))
        (λ g less. put g (omega (arith, less, h.links)))
        (put steps.groupers (omega (arith, h.links))))

    marks_was : (n : ℕ) → ParserMarks steps.job (shape_of steps n) steps.me (behind_of old) (read_of old) (put_on outs)
    marks_was n =
        subst (λ (g : ℕ). ParserMarks steps.job (record { parsers = steps.parsers; groupers = g; processors = n }) steps.me (behind_of old) (read_of old) (put_on outs)) groupers_is (h.stands.marks n)

    marks_new : (n : ℕ) → ParserMarks steps.job (shape_with new n) steps.me (behind_of new) (read_of new) (put_on outs')
    marks_new n =
        subst (λ (g : ℕ). ParserMarks steps.job (record { parsers = steps.parsers; groupers = g; processors = n }) steps.me (behind_of new) (read_of new) (put_on outs')) (sym groupers_now)
        (marks_ended steps.job (shape_of steps n) steps.me (behind_of old) (read_of old) (read_of new) (put_on outs) (put_on outs') Finish (marks_was n) (λ d. refl)
        (λ g less. put g (omega (arith, less, h.links)))
        (λ g d less own none. absurd (none (subst (HasEnded d) (sym (put g (omega (arith, less, h.links)))) (in_left (CaptureEnd d) (put_on outs g) (Finish ∷ []) (ends_told g d less own))))))

    few_new : (k : ℕ) → k < length outs'.links → length (put_on outs' k) ≤ most_put ended
    few_new k less =
        let there : k < length outs.links = omega (arith, less, ap length links) in
        let one : length (put_on outs' k) ≡ length (put_on outs k) + 1 = ap length (put k there) ∙ length-append (put_on outs k) (Finish ∷ []) in
        let none : one_if steps.finished ≡ 0 = ap one_if was in
        omega (arith, one, h.few k there, none)

    stands_new : ParserStands new
    stands_new = record {
      job_is = h.stands.job_is;
      place = h.stands.place;
      groupers = (omega (arith, h.stands.groupers.0, ap length links), omega (arith, h.stands.groupers.1, ap length links));
      captures = h.stands.captures;
      own = h.stands.own;
      lengths = h.stands.lengths;
      outs = record {
        holds = kept;
        credits = subst (λ (ls : List TxSeen). All (λ (l : TxSeen). l.credits ≡ (slice_index_or ls 0 no_tx).credits) ls) (sym links) h.stands.outs.credits;
      };
      keeps = keeps_new;
      marks = marks_new;
      even = h.stands.even;
      read = h.stands.read;
      held = h.stands.held;
      reads_few = record { read = h.stands.reads_few.read; records = h.stands.reads_few.records };
      offers_few = offers ended outs' None (captures_few steps outs None h.stands) few_new;
      quiet = λ none. ((h.stands.quiet refl).0, subst (λ (ls : List TxSeen). All (λ (l : TxSeen). l.fault ≡ None) ls) (sym links) (h.stands.quiet refl).1);
    }

    pub ended_holds : ParserHolds ended outs' None
    ended_holds = record {
      stands = stands_new;
      links = ap length links ∙ h.links;
      near = h.near;
      few = few_new;
      told = λ none c own over. record {
        ends = λ g less.
            let below : g < steps.groupers = omega (arith, less, groupers_now) in
            subst (HasEnded c) (sym (put g (omega (arith, below, h.links)))) (in_left (CaptureEnd c) (put_on outs g) (Finish ∷ []) (ends_told g c below own));
        row =
            subst (λ (g : ℕ). HasRow c (put_on outs' g)) (sym groupers_now)
            (let row = subst (λ (g : ℕ). HasRow c (put_on outs g)) groupers_is (told c own).row in
            (row.0, subst (λ (fs : List Frame). IsIn (CountsRow c row.0) fs) (sym (put steps.groupers (omega (arith, h.links)))) (in_left (CountsRow c row.0) (put_on outs steps.groupers) (Finish ∷ []) row.1)));
      };
      ending = λ k less. let there : k < length outs.links = omega (arith, less, ap length links) in ap has_finish (put k there) ∙ has_last (put_on outs k);
      all = λ over. all;
    }

    pub ended_goes : ParserGoes old new
    ended_goes = record {
      same = (refl, refl, refl, ap (λ (ls : List TxSeen). (slice_index_or ls 0 no_tx).credits) links);
      as_many = (refl, refl);
      sources = λ j d there. record { told = refl; whole = λ told. refl };
      reads = λ j there. let r : Reading = slice_index_or steps.reads j unread in record { bytes = front_same r.bytes r.bytes refl; records = front_same r.records r.records refl; ended = λ e. refl };
      outs = outs_go outs outs' links (λ k less. record { rest = Finish ∷ []; joined = put k less });
      kept = λ bad e. untold _ (ap (λ (o : Option NodeFault). is_some o) e);
    }

-- ---- the step that puts it

module _ (steps : StepsSeen) (outs outs' : ShuffleSeen) (h : ParserHolds steps outs None) (all : HasReadAll (seen_of steps outs None)) (links : outs'.links ≡ outs.links)
    (kept : ShuffleHolds outs'.links outs'.queues) (put : steps.finished ≡ false → (k : ℕ) → k < length outs.links → put_on outs' k ≡ put_on outs k ++ Finish ∷ [])
    (still : steps.finished ≡ true → outs' ≡ outs) where
  not_again : steps.finished ≡ true → StepsWell steps (record steps { finished = true }) outs outs' Ended
  not_again was =
      let holds : ParserHolds (record steps { finished = true }) outs None = still_holds steps outs h all was in
      subst (λ (o : ShuffleSeen). StepsWell steps (record steps { finished = true }) outs o Ended) (sym (still was))
      (record {
        holds = holds;
        goes = record {
          same = (refl, refl, refl, refl);
          as_many = (refl, refl);
          sources = λ j d there. record { told = refl; whole = λ told. refl };
          reads = λ j there. let r : Reading = slice_index_or steps.reads j unread in record { bytes = front_same r.bytes r.bytes refl; records = front_same r.records r.records refl; ended = λ e. refl };
          outs = outs_same outs;
          kept = λ bad e. untold _ (ap (λ (o : Option NodeFault). is_some o) e);
        };
        links = refl;
        steps = record {
          all = all;
          same = refl;
          put = λ k less. sym (append-nil (put_on outs k)) ∙ ap (λ (b : Bool). put_on outs k ++ (if b then [] else Finish ∷ [])) (sym was);
          still = λ again. refl;
        };
      })

  at_last : steps.finished ≡ false → StepsWell steps (record steps { finished = true }) outs outs' Ended
  at_last was = record {
    holds = ended_holds steps outs h all outs' was links kept (put was);
    goes = ended_goes steps outs h all outs' was links kept (put was);
    links = links;
    steps = record {
      all = all;
      same = refl;
      put = λ k less. put was k less ∙ ap (λ (b : Bool). put_on outs k ++ (if b then [] else Finish ∷ [])) (sym was);
      still = still;
    };
  }

  pub ended_well : (flag : Bool) → flag ≡ true → StepsWell steps (record steps { finished = flag }) outs outs' Ended
  ended_well flag is =
      subst (λ (b : Bool). StepsWell steps (record steps { finished = b }) outs outs' Ended) (sym is)
      (⊎_elim (λ (was : steps.finished ≡ true). not_again was) (λ (was : steps.finished ≡ false). at_last was) (cases_Bool steps.finished))
