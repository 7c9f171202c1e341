-- A pass, and a pass in which nothing moved.
use Rattle.std.proofs.Common.{ℕ, ◌+◌, ◌<◌, ◌≤◌, ◌≡◌, ◌||◌, Bool, true, false, None, List, length, get_or, refl, sym, ap, ◌∙◌, subst, arith, ⊎_elim}
use Rattle.credit_link.specs.Ahead.{IsPart}
use Rattle.credit_link.specs.Ends.{RxSeen}
use Rattle.credit_link.specs.Frames.{has_finish}
use Rattle.shuffle_poll.specs.Shuffles.{ShuffleSeen}
use Rattle.run_law.specs.Nodes.{least_of_captures}
use Rattle.node_lanes.specs.Ends.{put_on, given_on, InsStand, OutsStand}
use Rattle.node_lanes.specs.Passes.{InsRest, OutsRest}
use Rattle.node_lanes.specs.Resting.{NoneHeld, AllEnded}
use Rattle.node_lanes.proofs.Listed.{before_or_not}
use Rattle.node_lanes.proofs.Pumped.{given_at, some_of}
use Rattle.node_lanes.proofs.Resting.{rest_again}
use Rattle.grouper_state.specs.States.{IsAtRest, due_count}
use Rattle.grouper_state.specs.declared.state.GrouperState.{GrouperState}
use Rattle.grouper_state.proofs.Stepped as stepped
use Rattle.grouper_node.specs.Works.{WorkSeen, shape_in, taken_off, puts_of, IsSound}
use Rattle.grouper_node.specs.Steps.{Steps, Rises, ByMoved, Pumps, Polls, PutsDue, SendsSoFar, Sends, Takes, TakesOff, Rested, Passes}
use Rattle.grouper_node.proofs.Lists.{no_mark}
use Rattle.grouper_node.proofs.Works.{lawful_by}
use Rattle.grouper_node.proofs.Stepping.{steps_same, steps_on, rises_first, rises_then}

-- ---- once all links in have ended

over : (w : WorkSeen) → IsSound w → IsAtRest w.state → AllEnded w.ins → (k : ℕ) → k < length w.outs.links → has_finish (put_on w.outs k) ≡ true
over w h rests all k less =
    let none : least_of_captures w.job (shape_in w) (given_on w.ins) ≡ None =
    no_mark w.job (shape_in w) w.me (given_on w.ins) (omega (arith, h.ins_few.0)) (lawful_by w h) (λ p there.
    let d : RxSeen = some_of w.ins p there in
    ap has_finish (given_at w.ins p d there) ∙ all p d there) in
    (h.state.stands.links k less).ends
    ∙ rests.ended (stepped.least_same w.job (shape_in w) w.me (taken_off w.ins) (puts_of w.outs) w.state.grouper w.state.going w.state.turn w.state.processors w.state.mark w.state.finished h.state ∙ none)

-- ---- what is sent

pub first_poll : (went : Bool) (a b : WorkSeen) → Polls went a b → SendsSoFar went a b
first_poll went a b p = record { steps = p.steps; ins = p.ins; passes = p.passes }

-- one frame more that was due, and a poll
module _ (a b c d : WorkSeen) (puts : PutsDue true b c) where
  by_both : (went more : Bool) → SendsSoFar went a b → Polls more c d → ByMoved (went || more) (Rises a d) (OutsRest a.outs d.outs)
  by_both true more f p = rises_first a b d f.steps (steps_on b c d puts.steps p.steps) f.passes
  by_both false true f p = rises_then a b d f.steps (rises_then b c d puts.steps p.passes)
  by_both false false f p =
      rest_again d.credits a.outs b.outs c.outs d.outs f.passes puts.due.links f.steps.goes.outs.as_many p.passes p.steps.goes.outs.as_many p.steps.sound.outs

  pub sends_on : (went more : Bool) → SendsSoFar went a b → Polls more c d → SendsSoFar (went || more) a d
  sends_on went more f p = record {
    steps = steps_on a b d f.steps (steps_on b c d puts.steps p.steps);
    ins = p.ins ∙ puts.ins ∙ f.ins;
    passes = by_both went more f p;
  }

  -- fewer frames are due then
  pub sends_fewer : (more : Bool) → Polls more c d → due_count d.state < due_count b.state
  sends_fewer more p = subst (λ (s : GrouperState). due_count s < due_count b.state) (sym p.state) puts.due.less

-- until none is due
pub sends_end : (went : Bool) (a b c : WorkSeen) → SendsSoFar went a b → PutsDue false b c → Sends went a c
sends_end went a b c f puts = record { far = record { steps = steps_on a b c f.steps puts.steps; ins = puts.ins ∙ f.ins; passes = by_case went f }; due = λ none. puts.due.rests }
  where
    by_case : (went : Bool) → SendsSoFar went a b → ByMoved went (Rises a c) (OutsRest a.outs c.outs)
    by_case true f = rises_first a b c f.steps puts.steps f.passes
    by_case false f = subst (λ (o : ShuffleSeen). OutsRest a.outs o) (sym puts.due.outs) f.passes

-- or a frame waits
pub sends_full : (went : Bool) (a b : WorkSeen) → SendsSoFar went a b → ¬ NoneHeld b.outs → Sends went a b
sends_full went a b f held = record { far = f; due = λ none. absurd (held none) }

-- ---- the frames taken

pub takes_first : (w : WorkSeen) → TakesOff false 0 w w
takes_first w = (refl, λ held j d less on. absurd (omega (arith, less)))

pub off_steps : (took : Bool) (count : ℕ) (a b : WorkSeen) → IsSound a → TakesOff took count a b → Steps a b
off_steps true count a b h t = t.0
off_steps false count a b h t = subst (λ (x : WorkSeen). Steps a x) (sym t.0) (steps_same a h)

pub one_steps : (took : Bool) (j : ℕ) (a b : WorkSeen) → IsSound a → Takes took j a b → Steps a b
one_steps true j a b h t = t.0
one_steps false j a b h t = subst (λ (x : WorkSeen). Steps a x) (sym t.0) (steps_same a h)

pub takes_on : (took more : Bool) (j : ℕ) (a b c : WorkSeen) → IsSound a → TakesOff took j a b → Takes more j b c → TakesOff (took || more) (j + 1) a c
takes_on true more j a b c h t m = let next : Steps b c = one_steps more j b c t.0.sound m in (steps_on a b c t.0 next, rises_first a b c t.0 next t.1)
takes_on false true j a b c h t m = let first : Steps a b = off_steps false j a b h t in (steps_on a b c first m.0, rises_then a b c first m.1)
takes_on false false j a b c h t m = (
  m.0 ∙ t.0,
  λ none i d less on.
      ⊎_elim
      (λ (before : i < j). t.1 none i d before on)
      (λ (last : j ≤ i).
      let e : j ≡ i = omega (arith, last, less) in
      let here : (NoneHeld a.outs → (x : RxSeen) → has_finish (get_or a.ins j x).given ≡ false → IsPart (get_or a.ins j x).box) =
      subst (λ (w : WorkSeen). NoneHeld w.outs → (x : RxSeen) → has_finish (get_or w.ins j x).given ≡ false → IsPart (get_or w.ins j x).box) t.0 m.1 in
      subst (λ (k : ℕ). has_finish (get_or a.ins k d).given ≡ false → IsPart (get_or a.ins k d).box) e (here none d) on)
      (before_or_not i j),
)

pub takes_all : (took : Bool) (i n : ℕ) (a b : WorkSeen) → i ≡ n → TakesOff took i a b → TakesOff took n a b
takes_all took i n a b e t = subst (λ (k : ℕ). TakesOff took k a b) e t

-- a link on which nothing was taken
pub takes_waits : (j : ℕ) (w : WorkSeen) → ¬ NoneHeld w.outs → Takes false j w w
takes_waits j w held = (refl, λ none. absurd (held none))

pub takes_ended : (j : ℕ) (w : WorkSeen) → ((d : RxSeen) → true ≡ has_finish (get_or w.ins j d).given) → Takes false j w w
takes_ended j w ended = (refl, λ none d on. absurd (let wrong : true ≡ false = ended d ∙ on in cc))

pub takes_part : (j : ℕ) (w p : WorkSeen) → (p ≡ w) × ((d : RxSeen) → IsPart (get_or w.ins j d).box) → Takes false j w p
takes_part j w p pulled = (pulled.0, λ none d on. pulled.1 d)

pub sent_behind : (went : Bool) (j : ℕ) (a b c : WorkSeen) → Takes true j a b → Sends went b c → Takes true j a c
sent_behind went j a b c first s = (steps_on a b c first.0 s.far.steps, rises_first a b c first.0 s.far.steps first.1)

-- ---- a pass

module _ (a b c d : WorkSeen) where
  rested : Pumps false a b → Sends false b c → TakesOff false (length c.ins) c d → Rested a d
  rested p s t = subst (λ (x : WorkSeen). Rested a x) (sym t.0) whole
    where
      all : Steps a c
      all = steps_on a b c p.steps s.far.steps

      whole : Rested a c
      whole = record {
        rested = record {
          as_many = (all.goes.ins.as_many, all.goes.outs.as_many);
          ins_rest = subst (λ (l : List RxSeen). InsRest a.ins l) (sym s.far.ins) p.passes;
          outs_rest = subst (λ (o : ShuffleSeen). OutsRest o c.outs) p.outs s.far.passes;
          ins_stand = subst (λ (n : ℕ). InsStand n c.ins) all.goes.same.3 all.sound.ins;
          outs_stand = subst (λ (n : ℕ). OutsStand n c.outs) all.goes.same.3 all.sound.outs;
          empty = t.1;
          ended = λ none ended k less. over c all.sound (s.due none) ended k less;
        };
        due = s.due;
      }

  pub passes : (came went took : Bool) → Pumps came a b → Sends went b c → TakesOff took (length c.ins) c d → Passes (came || (went || took)) a d
  passes true went took p s t =
      let behind : Steps b d = steps_on b c d s.far.steps (off_steps took (length c.ins) c d s.far.steps.sound t) in
      (steps_on a b d p.steps behind, rises_first a b d p.steps behind p.passes)
  passes false true took p s t =
      let behind : Steps c d = off_steps took (length c.ins) c d s.far.steps.sound t in
      let first : Steps a c = steps_on a b c p.steps s.far.steps in
      (steps_on a c d first behind, rises_first a c d first behind (rises_then a b c p.steps s.far.passes))
  passes false false true p s t =
      let first : Steps a c = steps_on a b c p.steps s.far.steps in
      (steps_on a c d first t.0, rises_then a c d first t.1)
  passes false false false p s t =
      let first : Steps a c = steps_on a b c p.steps s.far.steps in
      (steps_on a c d first (off_steps false (length c.ins) c d s.far.steps.sound t), rested p s t)

-- the same by what the answers say
pub passes_by : (came went took behind moved : Bool) (a b c d : WorkSeen) → behind ≡ went || took → moved ≡ came || behind
    → Pumps came a b → Sends went b c → TakesOff took (length c.ins) c d → Passes moved a d
passes_by came went took behind moved a b c d e f p s t =
    subst (λ (m : Bool). Passes m a d) (sym (f ∙ ap (λ (x : Bool). came || x) e)) (passes a b c d came went took p s t)

pub sends_by : (went more moved : Bool) (a b c d : WorkSeen) → moved ≡ went || more → SendsSoFar went a b → PutsDue true b c → Polls more c d → SendsSoFar moved a d
sends_by went more moved a b c d e f puts p = subst (λ (m : Bool). SendsSoFar m a d) (sym e) (sends_on a b c d puts went more f p)

pub takes_by : (took more now : Bool) (j : ℕ) (a b c : WorkSeen) → now ≡ took || more → IsSound a → TakesOff took j a b → Takes more j b c → TakesOff now (j + 1) a c
takes_by took more now j a b c e h t m = subst (λ (x : Bool). TakesOff x (j + 1) a c) (sym e) (takes_on took more j a b c h t m)

pub moved_by : (moved : Bool) (a b : WorkSeen) → moved ≡ true → Passes moved a b → Rises a b
moved_by moved a b is p = (subst (λ (m : Bool). Passes m a b) is p).1

pub rested_by : (moved : Bool) (a b : WorkSeen) → moved ≡ false → Passes moved a b → Rested a b
rested_by moved a b is p = (subst (λ (m : Bool). Passes m a b) is p).1

pub puts_when : (put now : Bool) (a b : WorkSeen) → put ≡ now → PutsDue put a b → PutsDue now a b
puts_when put now a b is p = subst (λ (x : Bool). PutsDue x a b) is p

pub takes_when : (took now : Bool) (j : ℕ) (a b : WorkSeen) → took ≡ now → Takes took j a b → Takes now j a b
takes_when took now j a b is t = subst (λ (x : Bool). Takes x j a b) is t

pub sends_less : (more : Bool) (b c d : WorkSeen) → PutsDue true b c → Polls more c d → due_count d.state < due_count b.state
sends_less more b c d puts p = sends_fewer b b c d puts more p
