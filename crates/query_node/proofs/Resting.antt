-- A pass, and a pass in which nothing moved.
use Rattle.std.proofs.Common.{ℕ, ◌+◌, ◌<◌, ◌≤◌, ◌≡◌, ◌||◌, IsTrue, Bool, true, false, List, length, get_or, refl, sym, ap, ◌∙◌, subst, arith, ◌*◌, ◌-◌, ⊎_elim}
use Rattle.std.specs.List.{sum_by}
use Rattle.credit_link.specs.Ahead.{IsPart}
use Rattle.node_lanes.proofs.Listed.{before_or_not}
use Rattle.query_node.proofs.Works.{few_by}
use Rattle.credit_link.specs.Ends.{RxSeen}
use Rattle.credit_link.specs.Frames.{has_finish}
use Rattle.shuffle_poll.specs.Shuffles.{ShuffleSeen}
use Rattle.run_law.proofs.Ended.{all_ended}
use Rattle.node_lanes.specs.Ends.{put_on, InsStand, OutsStand}
use Rattle.node_lanes.specs.Passes.{InsRest, OutsRest}
use Rattle.node_lanes.specs.Resting.{NoneHeld, AllEnded}
use Rattle.node_lanes.proofs.Pumped.{given_at, some_of}
use Rattle.node_lanes.proofs.Resting.{rest_again}
use Rattle.query_state.specs.States.{taken_on}
use Rattle.query_node.specs.Works.{WorkSeen, taken_off, put_by, IsSound, IsNothingDue}
use Rattle.query_node.specs.Steps.{Steps, Rises, ByMoved, Pumps, Polls, PutsDue, SendsSoFar, Sends, Takes, TakesOff, Rested, Passes}
use Rattle.query_node.proofs.Lists.{taken_long, finish_in}
use Rattle.query_node.proofs.Stepping.{steps_same, steps_on, rises_first, rises_then}

-- ---- once all links in have ended

over : (w : WorkSeen) → IsSound w → IsNothingDue w → AllEnded w.ins → has_finish (put_by w.outs) ≡ true
over w h due all =
    h.state.stands.sends.ends
    ∙ due.over (all_ended (length (taken_off w.ins)) (taken_on (taken_off w.ins)) (λ i less.
    let there : i < length w.ins = omega (arith, less, taken_long w.ins) in
    let d : RxSeen = some_of w.ins i there in
    finish_in (taken_on (taken_off w.ins) i) (ap has_finish (given_at w.ins i d there) ∙ all i d there)))

-- ---- what is sent

pub first_poll : (went : Bool) (a b : WorkSeen) → Polls went a b → SendsSoFar went a b
first_poll went a b p = record { steps = p.steps; ins = p.ins; passes = p.passes }

-- one frame more that was due, and a poll
module _ (a b c d : WorkSeen) (put_steps : Steps b c) (put_ins : c.ins ≡ b.ins) (puts : PutsDue b c) where
  pub sends_on : (went more : Bool) → SendsSoFar went a b → Polls more c d → SendsSoFar (went || more) a d
  sends_on went more f p = record {
    steps = steps_on a b d f.steps (steps_on b c d put_steps p.steps);
    ins = p.ins ∙ put_ins ∙ f.ins;
    passes = by_case went more f p;
  }
    where
      by_case : (went more : Bool) → SendsSoFar went a b → Polls more c d → ByMoved (went || more) (Rises a d) (OutsRest a.outs d.outs)
      by_case true more f p = rises_first a b d f.steps (steps_on b c d put_steps p.steps) f.passes
      by_case false true f p = rises_then a b d f.steps (rises_then b c d put_steps p.passes)
      by_case false false f p =
          rest_again d.credits a.outs b.outs c.outs d.outs f.passes puts.links f.steps.goes.outs.as_many p.passes p.steps.goes.outs.as_many p.steps.sound.outs

-- the loop ends, since few frames are put
abbrev pub frames_left : WorkSeen → ℕ
frames_left w = 2 * sum_by length (taken_off w.ins) + 4097 - length (put_by w.outs)

pub sends_fewer : (b c d : WorkSeen) (more : Bool) → IsSound d → c.ins ≡ b.ins → PutsDue b c → Polls more c d → frames_left d < frames_left b
sends_fewer b c d more h same puts p =
    omega (arith, ap length p.put ∙ puts.one, few_by d.job d.ins (put_by d.outs) d.state h.state, ap (λ (l : List RxSeen). sum_by length (taken_off l)) (p.ins ∙ same))

-- until none is due
pub sends_end : (went : Bool) (a b c : WorkSeen) → SendsSoFar went a b → Steps b c → c.ins ≡ b.ins → c.outs ≡ b.outs → IsNothingDue c → Sends went a c
sends_end went a b c f next ins outs due = record { far = record { steps = steps_on a b c f.steps next; ins = ins ∙ f.ins; passes = by_case went f }; due = λ none. due }
  where
    by_case : (went : Bool) → SendsSoFar went a b → ByMoved went (Rises a c) (OutsRest a.outs c.outs)
    by_case true f = rises_first a b c f.steps next f.passes
    by_case false f = subst (λ (o : ShuffleSeen). OutsRest a.outs o) (sym outs) f.passes

-- or a frame waits
pub sends_full : (went : Bool) (a b : WorkSeen) → SendsSoFar went a b → ¬ NoneHeld b.outs → Sends went a b
sends_full went a b f held = record { far = f; due = λ none. absurd (held none) }

-- ---- the frames taken

pub takes_first : (count : ℕ) (w : WorkSeen) → count ≡ 0 → TakesOff false count w w
takes_first count w none = (refl, λ held j d less on. absurd (omega (arith, less, none)))

pub off_steps : (took : Bool) (count : ℕ) (a b : WorkSeen) → IsSound a → TakesOff took count a b → Steps a b
off_steps true count a b h t = t.0
off_steps false count a b h t = subst (λ (x : WorkSeen). Steps a x) (sym t.0) (steps_same a h)

pub one_steps : (took : Bool) (j : ℕ) (a b : WorkSeen) → IsSound a → Takes took j a b → Steps a b
one_steps true j a b h t = t.0
one_steps false j a b h t = subst (λ (x : WorkSeen). Steps a x) (sym t.0) (steps_same a h)

pub takes_on : (took more : Bool) (j : ℕ) (a b c : WorkSeen) → IsSound a → IsSound b → TakesOff took j a b → Takes more j b c → TakesOff (took || more) (j + 1) a c
takes_on true more j a b c h hb t m = let next : Steps b c = one_steps more j b c hb m in (steps_on a b c t.0 next, rises_first a b c t.0 next t.1)
takes_on false true j a b c h hb t m = let first : Steps a b = off_steps false j a b h t in (steps_on a b c first m.0, rises_then a b c first m.1)
takes_on false false j a b c h hb t m = (
  m.0 ∙ t.0,
  λ none i d less on.
      ⊎_elim
      (λ (before : i < j). t.1 none i d before on)
      (λ (last : j ≤ i).
      let e : j ≡ i = omega (arith, last, less) in
      let here : (NoneHeld a.outs → (x : RxSeen) → has_finish (get_or a.ins j x).given ≡ false → IsPart (get_or a.ins j x).box) =
      subst (λ (w : WorkSeen). NoneHeld w.outs → (x : RxSeen) → has_finish (get_or w.ins j x).given ≡ false → IsPart (get_or w.ins j x).box) t.0 m.1 in
      subst (λ (k : ℕ). has_finish (get_or a.ins k d).given ≡ false → IsPart (get_or a.ins k d).box) e (here none d) on)
      (before_or_not i j),
)

pub takes_all : (took : Bool) (i n : ℕ) (a b : WorkSeen) → i ≡ n → TakesOff took i a b → TakesOff took n a b
takes_all took i n a b e t = subst (λ (k : ℕ). TakesOff took k a b) e t

pub sent_behind : (took : Bool) (went : Bool) (j : ℕ) (a b c : WorkSeen) → took ≡ true → Takes took j a b → Sends went b c → Takes true j a c
sent_behind took went j a b c took_one t s =
    (let first : Takes true j a b = subst (λ (x : Bool). Takes x j a b) took_one t in (steps_on a b c first.0 s.far.steps, rises_first a b c first.0 s.far.steps first.1))

-- ---- a pass

module _ (a b c d : WorkSeen) (h : IsSound a) where
  rested : Pumps false a b → Sends false b c → TakesOff false (length c.ins) c d → Rested a d
  rested p s t = subst (λ (x : WorkSeen). Rested a x) (sym t.0) whole
    where
      all : Steps a c
      all = steps_on a b c p.steps s.far.steps

      whole : Rested a c
      whole = record {
        rested = record {
          as_many = (all.goes.ins.as_many, all.goes.outs.as_many);
          ins_rest = subst (λ (l : List RxSeen). InsRest a.ins l) (sym s.far.ins) p.passes;
          outs_rest = subst (λ (o : ShuffleSeen). OutsRest o c.outs) p.outs s.far.passes;
          ins_stand = subst (λ (n : ℕ). InsStand n c.ins) all.goes.same.1 all.sound.ins;
          outs_stand = subst (λ (n : ℕ). OutsStand n c.outs) all.goes.same.1 all.sound.outs;
          empty = t.1;
          ended = λ none ended k less.
              let first : 0 ≡ k = omega (arith, less, all.sound.one_out) in
              subst (λ (i : ℕ). IsTrue (has_finish (put_on c.outs i))) first (over c all.sound (s.due none) ended);
        };
        due = s.due;
      }

  pub passes : (came went took : Bool) → Pumps came a b → Sends went b c → TakesOff took (length c.ins) c d → Passes (came || (went || took)) a d
  passes true went took p s t =
      let behind : Steps b d = steps_on b c d s.far.steps (off_steps took (length c.ins) c d s.far.steps.sound t) in
      (steps_on a b d p.steps behind, rises_first a b d p.steps behind p.passes)
  passes false true took p s t =
      let behind : Steps c d = off_steps took (length c.ins) c d s.far.steps.sound t in
      let first : Steps a c = steps_on a b c p.steps s.far.steps in
      (steps_on a c d first behind, rises_first a c d first behind (rises_then a b c p.steps s.far.passes))
  passes false false true p s t =
      let first : Steps a c = steps_on a b c p.steps s.far.steps in
      (steps_on a c d first t.0, rises_then a c d first t.1)
  passes false false false p s t =
      let first : Steps a c = steps_on a b c p.steps s.far.steps in
      (steps_on a c d first (off_steps false (length c.ins) c d s.far.steps.sound t), rested p s t)

-- a pass in which something moved
pub moved_by : (moved : Bool) (a b : WorkSeen) → moved ≡ true → Passes moved a b → Rises a b
moved_by moved a b is p = (subst (λ (m : Bool). Passes m a b) is p).1
