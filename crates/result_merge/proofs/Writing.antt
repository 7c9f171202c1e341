-- All lines that are due are pushed, and written.
use Rattle.std.proofs.Common.{ℕ, ◌+◌, ◌-◌, ◌≡◌, IsTrue, None, List, [], ◌++◌, length, take, drop, refl, sym, ap, ◌∙◌, subst, arith, append-nil, append_assoc, length-append}
use Rattle.std.proofs.Math.Seq.{take-add}
use Rattle.std.proofs.lemmas.List.{take-append-drop, get_or-append-add}
use Rattle.ds_base.specs.Faults.{Rose}
use Rattle.ds_base.specs.Outside.{SinkSeen, SinkStays}
use Rattle.node_frames.specs.declared.frame.Frame.{Frame}
use Rattle.credit_link.specs.declared.turn.NodeFault.{NodeFault}
use Rattle.credit_link.specs.declared.turn.NodeFault.TheVariants.{Write, OutOfMemory}
use Rattle.summary_spec.specs.Declaration.{Declared}
use Rattle.run_law.specs.Shapes.{Shape, IsFront}
use Rattle.node_lanes.proofs.Going.{ins_same}
use Rattle.merge_state.specs.Promised.{NoneIsDue, Pushes, IsOfLinks}
use Rattle.merge_state.specs.States.{StateIs, StandsFor, state_is}
use Rattle.merge_state.specs.declared.state.MergeState.{MergeState}
use Rattle.result_merge.specs.Works.{WorkSeen, taken_off, taken_on, shape_by, state_holds, rests_over, IsSound}
use Rattle.result_merge.specs.Steps.{Fails, PushesDue, TakesFront, Writes, WritesDue}
use Rattle.result_merge.proofs.Lists.{on_left}
use Rattle.result_merge.proofs.Works.{rests_keeps, rests_by, fails_by, fails_same}

-- ---- pushes

pub pushes_none : (job : Declared) (d : MergeState) (text : List ℕ) → Pushes job d d text text
pushes_none job d text = record {
  more = [];
  text = sym (append-nil text);
  stands = λ shape counts taken gained h. subst (λ (xs : List ℕ). state_is job shape counts taken xs d) (sym (append-nil gained)) h;
}

pub pushes_on : (job : Declared) (a b c : MergeState) (first second third : List ℕ) → Pushes job a b first second → Pushes job b c second third → Pushes job a c first third
pushes_on job a b c first second third f g = record {
  more = f.more ++ g.more;
  text = g.text ∙ ap (λ (xs : List ℕ). xs ++ g.more) f.text ∙ append_assoc first f.more g.more;
  stands = λ shape counts taken gained h.
      subst (λ (xs : List ℕ). state_is job shape counts taken xs c) (append_assoc gained f.more g.more) (g.stands shape counts taken (gained ++ f.more) (f.stands shape counts taken gained h));
}

pub stands_on : (job : Declared) (a b : MergeState) (first second : List ℕ) → StandsFor job a → Pushes job a b first second → StandsFor job b
stands_on job a b first second s f = record { shape = s.shape; counts = s.counts; taken = s.taken; gained = s.gained ++ f.more; is = f.stands s.shape s.counts s.taken s.gained s.is }

-- ---- all that is due

pub stands_for : (w : WorkSeen) → IsSound w → StandsFor w.job w.state
stands_for w h = record {
  shape = record { parsers = w.parsers; groupers = 0; processors = length w.answers };
  counts = taken_on w.counts;
  taken = taken_on w.answers;
  gained = w.gained;
  is = h.state;
}

module _ (w : WorkSeen) (state : MergeState) (lines : List ℕ) (h : IsSound w) where
  long : length w.answers ≡ length (taken_off w.ins) - w.parsers
  long = omega (arith, length-append w.counts w.answers, ap length h.orders, h.apart)

  -- the state over the frames taken
  over_links : ((job : Declared) (shape : Shape) (counts others taken more : ℕ → List Frame) (gained : List ℕ) (d : MergeState) → IsOfLinks job shape counts others taken more gained d)
      → (groupers : ℕ) → state_holds w.job w.parsers w.counts w.answers (w.gained ++ lines) state
      → state_is w.job (shape_by w.parsers (length (taken_off w.ins)) groupers) (taken_on (taken_off w.ins)) (λ q. taken_on (taken_off w.ins) (w.parsers + q)) (w.gained ++ lines) state
  over_links tell groupers holds =
      tell w.job (shape_by w.parsers (length (taken_off w.ins)) groupers) (taken_on w.counts) (taken_on (taken_off w.ins)) (taken_on w.answers) (λ q. taken_on (taken_off w.ins) (w.parsers + q)) (w.gained ++ lines) state
      (λ k less. ap (λ (l : List (List Frame)). taken_on l k) (sym h.orders) ∙ on_left w.counts w.answers k (omega (arith, less, h.apart)))
      (λ k less.
      ap (λ (l : List (List Frame)). taken_on l (w.parsers + k)) (sym h.orders)
      ∙ ap (λ (n : ℕ). taken_on (w.counts ++ w.answers) (n + k)) (sym h.apart)
      ∙ get_or-append-add w.counts w.answers k [])
      (subst (λ (n : ℕ). StateIs w.job w.parsers n (taken_on w.counts) (taken_on w.answers) (w.gained ++ lines) state.waiting state.marks state.profile state.counts.items state.groups state.stage) long holds)

  pub pushes_due : (before : List ℕ) → before ≡ [] → ((job : Declared) (shape : Shape) (counts others taken more : ℕ → List Frame) (gained : List ℕ) (d : MergeState) → IsOfLinks job shape counts others taken more gained d)
      → Pushes w.job w.state state before lines → NoneIsDue w.job state → PushesDue w (record w { state = state }) lines
  pushes_due before empty tell pushes none = record {
    rest = refl;
    state = holds;
    all = λ groupers.
        none (shape_by w.parsers (length (taken_off w.ins)) groupers) (taken_on (taken_off w.ins)) (λ q. taken_on (taken_off w.ins) (w.parsers + q)) (w.gained ++ lines) (over_links tell groupers holds);
  }
    where
      same : lines ≡ pushes.more
      same = pushes.text ∙ ap (λ (xs : List ℕ). xs ++ pushes.more) empty

      holds : state_holds w.job w.parsers w.counts w.answers (w.gained ++ lines) state
      holds =
          subst (λ (xs : List ℕ). state_holds w.job w.parsers w.counts w.answers (w.gained ++ xs) state) (sym same)
          (pushes.stands (record { parsers = w.parsers; groupers = 0; processors = length w.answers }) (taken_on w.counts) (taken_on w.answers) w.gained h.state)

pub push_fails : (w : WorkSeen) (state : MergeState) → IsSound w → Fails w (record w { state = state }) OutOfMemory
push_fails w state h = fails_same w w.ins w.counts w.answers state OutOfMemory h (ins_same w.ins) h.ins refl tt

-- ---- what was written

gains_by : (sink sink' : SinkSeen) (gained gained' text : List ℕ) → TakesFront sink sink' gained gained' text → IsTrue sink.told → (start : List ℕ) → sink.written ≡ start ++ gained → sink'.written ≡ start ++ gained'
gains_by sink sink' gained gained' text front told start e =
    front.written told
    ∙ ap (λ (xs : List ℕ). xs ++ take front.count text) e
    ∙ append_assoc start gained (take front.count text)
    ∙ ap (λ (xs : List ℕ). start ++ xs) (sym front.noted)

front_by : (sink sink' : SinkSeen) (gained gained' text : List ℕ) → TakesFront sink sink' gained gained' text → IsFront gained gained'
front_by sink sink' gained gained' text front = record { rest = take front.count text; joined = front.noted }

module _ (w : WorkSeen) (state : MergeState) (sink : SinkSeen) (gained lines : List ℕ) (h : IsSound w) (holds : state_holds w.job w.parsers w.counts w.answers (w.gained ++ lines) state)
    (all : rests_over w.job w.parsers (taken_off w.ins) (w.gained ++ lines)) (stays : SinkStays w.sink sink) (front : TakesFront w.sink sink w.gained gained lines) where
  abbrev written : WorkSeen
  written = record w { state = state; sink = sink; gained = gained }

  module _ (whole : gained ≡ w.gained ++ lines) (calm : sink.faults ≡ w.sink.faults) where
    rests : rests_over w.job w.parsers (taken_off w.ins) gained
    rests = subst (λ (xs : List ℕ). rests_over w.job w.parsers (taken_off w.ins) xs) (sym whole) all

    written_due : WritesDue w written
    written_due = record {
      steps = record {
        sound = record {
          job_is = h.job_is;
          parsers = h.parsers;
          processors = h.processors;
          ins = h.ins;
          quiet = h.quiet;
          lawful = record { counts = h.lawful.counts; answers = h.lawful.answers };
          apart = h.apart;
          orders = h.orders;
          state = subst (λ (xs : List ℕ). state_holds w.job w.parsers w.counts w.answers xs state) (sym whole) holds;
          keeps = rests_keeps w.job w.parsers (taken_off w.ins) gained gained [] (sym (append-nil gained)) rests;
        };
        goes = record {
          same = (refl, refl, refl);
          ins = ins_same w.ins;
          sink = stays;
          gained = front_by w.sink sink w.gained gained lines front;
          written = gains_by w.sink sink w.gained gained lines front;
          calm = λ none. calm;
          kept = λ bad e. e;
        };
        lent = refl;
        calm = λ j d less. (refl, refl);
        no_less = λ tells. omega arith;
      };
      rests = rests_by written None rests;
    }

  written_front : Rose w.sink.faults sink.faults → Fails w written Write
  written_front rose =
      fails_by w written Write h (refl, refl, refl) refl (ins_same w.ins) h.ins stays (front_by w.sink sink w.gained gained lines front) (gains_by w.sink sink w.gained gained lines front)
      (λ takes.
      rests_keeps w.job w.parsers (taken_off w.ins) (w.gained ++ lines) gained (drop front.count lines)
      (ap (λ (xs : List ℕ). w.gained ++ xs) (sym (take-append-drop front.count lines))
      ∙ sym (append_assoc w.gained (take front.count lines) (drop front.count lines))
      ∙ ap (λ (xs : List ℕ). xs ++ drop front.count lines) (sym front.noted))
      all)
      rose

-- the same over the work as it is after each step
module _ (w p a : WorkSeen) (lines : List ℕ) (h : IsSound w) (pushes : PushesDue w p lines) (writes : Writes p a lines) where
  whole_is : a ≡ record w { state = p.state; sink = a.sink; gained = a.gained }
  whole_is = writes.rest ∙ ap (λ (x : WorkSeen). record x { sink = a.sink; gained = a.gained }) pushes.rest

  stays_w : SinkStays w.sink a.sink
  stays_w = subst (λ (x : WorkSeen). SinkStays x.sink a.sink) pushes.rest writes.stays

  front_w : TakesFront w.sink a.sink w.gained a.gained lines
  front_w = subst (λ (x : WorkSeen). TakesFront x.sink a.sink x.gained a.gained lines) pushes.rest writes.front

  pub writes_due : a.gained ≡ p.gained ++ lines → a.sink.faults ≡ p.sink.faults → WritesDue w a
  writes_due whole calm =
      subst (λ (x : WorkSeen). WritesDue w x) (sym whole_is)
      (written_due w p.state a.sink a.gained lines h pushes.state pushes.all stays_w front_w
      (whole ∙ ap (λ (x : WorkSeen). x.gained ++ lines) pushes.rest) (calm ∙ ap (λ (x : WorkSeen). x.sink.faults) pushes.rest))

  pub write_fails : (bad : NodeFault) → bad ≡ Write → Rose p.sink.faults a.sink.faults → Fails w a bad
  write_fails bad is rose =
      subst (λ (b : NodeFault). Fails w a b) (sym is)
      (subst (λ (x : WorkSeen). Fails w x Write) (sym whole_is)
      (written_front w p.state a.sink a.gained lines h pushes.state pushes.all stays_w front_w (subst (λ (x : WorkSeen). Rose x.sink.faults a.sink.faults) pushes.rest rose)))

-- ---- one piece more of a text

pub noted_more : (before text : List ℕ) (w n : ℕ) → (before ++ take w text) ++ take n (drop w text) ≡ before ++ take (w + n) text
noted_more before text w n = append_assoc before (take w text) (take n (drop w text)) ∙ ap (λ (xs : List ℕ). before ++ xs) (sym (take-add w n text))
