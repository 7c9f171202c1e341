-- A parser whose steps and polls follow one another, seen as a node.
use Rattle.std.proofs.Common.{ℕ, ◌+◌, ◌≡◌, Bool, true, false, ◌||◌, Option, None, Some, List, length, get_or, refl, sym, ap, ◌∙◌, subst, arith, inl}
use Rattle.credit_link.specs.Ends.{TxSeen}
use Rattle.credit_link.specs.declared.turn.NodeFault.{NodeFault}
use Rattle.shuffle_poll.specs.Shuffles.{ShuffleSeen}
use Rattle.node_lanes.specs.Ends.{OutsAreQuiet, OutsGo}
use Rattle.node_lanes.specs.Passes.{OutsPass, OutsNoLess, OutsAreCalm, OutsMeet}
use Rattle.node_lanes.specs.Resting.{NoneHeld}
use Rattle.node_lanes.proofs.Going.{outs_same}
use Rattle.net_law.specs.Ends.{no_tx}
use Rattle.net_law.specs.Parsers.{ParserSeen, ParserGoes, SomeWaits}
use Rattle.net_law.proofs.Going.{parser_stays}
use Rattle.parser_steps.specs.Seen.{StepsSeen, seen_of}
use Rattle.parser_steps.specs.Holds.{ParserHolds}
use Rattle.parser_steps.specs.Steps.{StepsBy}
use Rattle.parser_steps.specs.declared.step.Stepped.{Stepped}
use Rattle.parser_steps.specs.declared.step.Stepped.TheVariants.{Took, Read, CaptureEnded, Ended}
use Rattle.parser_steps.proofs.Moved.{polled_holds}
use Rattle.parser_node.specs.Passing.{PollKeeps, Polls, StepTakes, RestsBy, OnePass, ManyPasses, MeetsFault, is_taken, is_ended}
use Rattle.parser_node.proofs.Passing.{same_reads, pass_by, passes_begin, passes_go_on, fault_later, poll_meets}

-- ---- polls

-- a poll that was left out
pub unpolled_keeps : (outs : ShuffleSeen) → PollKeeps outs outs
unpolled_keeps outs = record { stand = λ number h. h; goes = outs_same outs; put = λ k. refl }

pub unpolled : (outs : ShuffleSeen) (took : Bool) → took ≡ true → OutsAreQuiet outs → Polls took false outs outs
unpolled outs took is quiet = record {
  quiet = quiet;
  calm = λ k d less. (refl, refl);
  no_less = λ tells. omega arith;
  more = λ wrong. absurd (let e : false ≡ true = wrong in cc);
  still = λ none not. absurd (let e : true ≡ false = sym is ∙ not in cc);
}

pub polled : (took did : Bool) (outs outs' : ShuffleSeen) → OutsAreQuiet outs' → OutsAreCalm outs outs' → OutsNoLess outs outs' → OutsPass did outs outs' → Polls took did outs outs'
polled took true outs outs' quiet calm no_less passes = record { quiet = quiet; calm = calm; no_less = no_less; more = λ e. passes; still = λ wrong not. absurd (let e : true ≡ false = wrong in cc) }
polled took false outs outs' quiet calm no_less passes = record { quiet = quiet; calm = calm; no_less = no_less; more = λ wrong. absurd (let e : false ≡ true = wrong in cc); still = λ none not. passes }

-- a parser goes on by a poll, whatever fault it meets
pub poll_goes : (x : StepsSeen) (outs outs' : ShuffleSeen) (fault : Option NodeFault) → ParserHolds x outs None → OutsGo outs outs' → ParserGoes (seen_of x outs None) (seen_of x outs' fault)
poll_goes x outs outs' fault holds goes =
    let stays = parser_stays (seen_of x outs None) in
    record {
      same = (refl, refl, refl, (goes.each 0 no_tx (omega (arith, holds.stands.groupers.0))).credits);
      as_many = (refl, refl);
      sources = stays.sources;
      reads = stays.reads;
      outs = goes;
      kept = λ bad wrong. absurd (let e : None ≡ Some bad = wrong in cc);
    }

-- whether a frame waits
pub rests_from : (waits : Bool) (s : ParserSeen) → (waits ≡ true → SomeWaits s.outs) → (waits ≡ false → NoneHeld s.outs) → RestsBy waits s
rests_from true s some none = inl (some refl)
rests_from false s some none = none refl

-- ---- steps

pub step_takes : (x y : StepsSeen) (outs outs' : ShuffleSeen) (stepped : Stepped) → ParserHolds y outs' None → length outs'.links ≡ length outs.links → StepsBy x y outs outs' stepped
    → StepTakes (is_taken stepped) (is_ended stepped) (seen_of x outs None) (seen_of y outs' None)
step_takes x y outs outs' Took holds long h = record {
  taken = λ e. omega (arith, h.0.records_more, h.1);
  same = λ wrong. absurd (let e : true ≡ false = wrong in cc);
  ended = λ wrong. absurd (let e : false ≡ true = wrong in cc);
  counts = λ e. omega (arith, h.0.records_more, h.0.ends_more, h.1);
}
step_takes x y outs outs' Read holds long h = record {
  taken = λ e. omega (arith, h.0.records_more, h.1);
  same = λ wrong. absurd (let e : true ≡ false = wrong in cc);
  ended = λ wrong. absurd (let e : false ≡ true = wrong in cc);
  counts = λ e. omega (arith, h.0.records_more, h.0.ends_more, h.1);
}
step_takes x y outs outs' CaptureEnded holds long h = record {
  taken = λ wrong. absurd (let e : false ≡ true = wrong in cc);
  same = λ e. record { read = h.1; records = omega (arith, h.0.records_more) };
  ended = λ wrong. absurd (let e : false ≡ true = wrong in cc);
  counts = λ e. omega (arith, h.0.records_more, h.0.ends_more, h.1);
}
step_takes x y outs outs' Ended holds long h = record {
  taken = λ wrong. absurd (let e : false ≡ true = wrong in cc);
  same = λ e. same_reads (seen_of x outs None) (seen_of y outs' None) (ap (λ (z : StepsSeen). z.reads) h.same);
  ended = λ e. record { read = h.all; put = λ k less. holds.ending k less ∙ ap (λ (z : StepsSeen). z.finished) h.same };
  counts = λ wrong. absurd (let e : true ≡ false = wrong in cc);
}

-- ---- a step and a poll behind it

module _ (x y : StepsSeen) (outs mid : ShuffleSeen) (was : ParserHolds x outs None) (now : ParserHolds y mid None) (goes : ParserGoes (seen_of x outs None) (seen_of y mid None)) (links : mid.links ≡ outs.links) where
  step_calm : OutsAreCalm outs mid
  step_calm k d less = (ap (λ (l : List TxSeen). (get_or l k d).forth.faults) links, ap (λ (l : List TxSeen). (get_or l k d).back.faults) links)

  pub pass_done : (outs' : ShuffleSeen) (stepped : Stepped) (took ended did waits moved rests : Bool) → took ≡ is_taken stepped → ended ≡ is_ended stepped → moved ≡ (took || did) → rests ≡ (ended || waits)
      → StepsBy x y outs mid stepped → PollKeeps mid outs' → Polls took did mid outs' → RestsBy waits (seen_of y outs' None) → OnePass moved rests (seen_of x outs None) (seen_of y outs' None)
  pass_done outs' stepped took ended did waits moved rests took_is ended_is moved_is rests_is steps keeps polls rests_by =
      let takes : StepTakes took ended (seen_of x outs None) (seen_of y mid None) =
      subst (λ (t : Bool). StepTakes t ended (seen_of x outs None) (seen_of y mid None)) (sym took_is)
      (subst (λ (e : Bool). StepTakes (is_taken stepped) e (seen_of x outs None) (seen_of y mid None)) (sym ended_is) (step_takes x y outs mid stepped now (ap length links) steps)) in
      subst (λ (m : Bool). OnePass m rests (seen_of x outs None) (seen_of y outs' None)) (sym moved_is)
      (subst (λ (r : Bool). OnePass (took || did) r (seen_of x outs None) (seen_of y outs' None)) (sym rests_is)
      (pass_by (seen_of x outs None) (seen_of y mid None) (seen_of y outs' None) took ended did waits takes goes links polls (poll_goes y mid outs' None now keeps.goes) refl keeps.put rests_by))

  pub pass_meets : (outs' : ShuffleSeen) (bad : NodeFault) → PollKeeps mid outs' → OutsMeet 0 mid outs' bad → MeetsFault (seen_of x outs None) (seen_of y outs' (Some bad)) bad
  pass_meets outs' bad keeps met =
      fault_later (seen_of x outs None) (seen_of y mid None) (seen_of y outs' (Some bad)) goes step_calm was.stands refl now.stands refl bad
      (record { goes = poll_goes y mid outs' (Some bad) now keeps.goes; meets = poll_meets (seen_of y mid None) (seen_of y outs' (Some bad)) bad met })

-- ---- what holds after a poll

pub holds_on : (x : StepsSeen) (outs outs' : ShuffleSeen) → ParserHolds x outs None → PollKeeps outs outs' → OutsAreQuiet outs' → ParserHolds x outs' None
holds_on x outs outs' holds keeps quiet = polled_holds x outs outs' None holds keeps.stand keeps.goes keeps.put (λ none. quiet)

pub holds_by_fault : (x : StepsSeen) (outs outs' : ShuffleSeen) (bad : NodeFault) → ParserHolds x outs None → PollKeeps outs outs' → ParserHolds x outs' (Some bad)
holds_by_fault x outs outs' bad holds keeps = polled_holds x outs outs' (Some bad) holds keeps.stand keeps.goes keeps.put (λ wrong. absurd (let e : Some bad ≡ None = wrong in cc))

-- ---- the first poll

pub first_poll : (x : StepsSeen) (outs outs' : ShuffleSeen) (did waits : Bool) → ParserHolds x outs None → PollKeeps outs outs' → Polls false did outs outs' → RestsBy waits (seen_of x outs' None)
    → ManyPasses did waits 0 (seen_of x outs None) (seen_of x outs' None)
first_poll x outs outs' did waits holds keeps polls rests = passes_begin (seen_of x outs None) (seen_of x outs' None) did waits polls (poll_goes x outs outs' None holds keeps.goes) refl rests

pub first_meets : (x : StepsSeen) (outs outs' : ShuffleSeen) (bad : NodeFault) → ParserHolds x outs None → PollKeeps outs outs' → OutsMeet 0 outs outs' bad → MeetsFault (seen_of x outs None) (seen_of x outs' (Some bad)) bad
first_meets x outs outs' bad holds keeps met = record { goes = poll_goes x outs outs' (Some bad) holds keeps.goes; meets = poll_meets (seen_of x outs None) (seen_of x outs' (Some bad)) bad met }

-- one pass more, where none rested so far
pub passes_more : (x y z : StepsSeen) (outs mid outs' : ShuffleSeen) (did rested again rests moved : Bool) (count : ℕ) → rested ≡ false → moved ≡ (did || again) → ParserHolds z outs' None
    → ManyPasses did rested count (seen_of x outs None) (seen_of y mid None) → OnePass again rests (seen_of y mid None) (seen_of z outs' None) → ManyPasses moved rests (count + 1) (seen_of x outs None) (seen_of z outs' None)
passes_more x y z outs mid outs' did rested again rests moved count none moved_is holds many one =
    let so_far : ManyPasses did false count (seen_of x outs None) (seen_of y mid None) = subst (λ (r : Bool). ManyPasses did r count (seen_of x outs None) (seen_of y mid None)) none many in
    subst (λ (m : Bool). ManyPasses m rests (count + 1) (seen_of x outs None) (seen_of z outs' None)) (sym moved_is)
    (passes_go_on (seen_of z outs' None).credits (seen_of x outs None) (seen_of y mid None) (seen_of z outs' None) did again rests count holds.stands.outs so_far one)
