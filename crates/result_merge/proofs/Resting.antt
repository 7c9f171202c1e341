-- A pass, and a pass in which nothing moved.
use Rattle.std.proofs.Common.{ℕ, ◌+◌, ◌<◌, ◌≤◌, ◌≡◌, ◌||◌, Bool, true, false, length, get_or, refl, sym, ◌∙◌, subst, arith, ⊎_elim}
use Rattle.credit_link.specs.Ahead.{IsPart}
use Rattle.credit_link.specs.Ends.{RxSeen}
use Rattle.credit_link.specs.Frames.{has_finish}
use Rattle.node_lanes.proofs.Listed.{before_or_not}
use Rattle.result_merge.specs.Works.{WorkSeen, IsSound}
use Rattle.result_merge.specs.Steps.{Steps, Rises, Pumps, Takes, TakesOff, Rested, Passes}
use Rattle.result_merge.proofs.Stepping.{steps_same, steps_on, rises_first, rises_then}

-- ---- the frames taken

pub takes_first : (count : ℕ) (w : WorkSeen) → count ≡ 0 → TakesOff false count w w
takes_first count w none = (refl, λ j d less on. absurd (omega (arith, less, none)))

pub off_steps : (took : Bool) (count : ℕ) (a b : WorkSeen) → IsSound a → TakesOff took count a b → Steps a b
off_steps true count a b h t = t.0
off_steps false count a b h t = subst (λ (x : WorkSeen). Steps a x) (sym t.0) (steps_same a h)

one_steps : (took : Bool) (j : ℕ) (a b : WorkSeen) → IsSound a → Takes took j a b → Steps a b
one_steps true j a b h t = t.0
one_steps false j a b h t = subst (λ (x : WorkSeen). Steps a x) (sym t.0) (steps_same a h)

pub takes_on : (took more : Bool) (j : ℕ) (a b c : WorkSeen) → IsSound a → IsSound b → TakesOff took j a b → Takes more j b c → TakesOff (took || more) (j + 1) a c
takes_on true more j a b c h hb t m = let next : Steps b c = one_steps more j b c hb m in (steps_on a b c t.0 next, rises_first a b c t.0 next t.1)
takes_on false true j a b c h hb t m = let first : Steps a b = off_steps false j a b h t in (steps_on a b c first m.0, rises_then a b c first m.1)
takes_on false false j a b c h hb t m = (
  m.0 ∙ t.0,
  λ i d less on.
      ⊎_elim
      (λ (before : i < j). t.1 i d before on)
      (λ (last : j ≤ i).
      let e : j ≡ i = omega (arith, last, less) in
      let here : ((x : RxSeen) → has_finish (get_or a.ins j x).given ≡ false → IsPart (get_or a.ins j x).box) =
      subst (λ (w : WorkSeen). (x : RxSeen) → has_finish (get_or w.ins j x).given ≡ false → IsPart (get_or w.ins j x).box) t.0 m.1 in
      subst (λ (k : ℕ). has_finish (get_or a.ins k d).given ≡ false → IsPart (get_or a.ins k d).box) e (here d) on)
      (before_or_not i j),
)

-- ---- a pass

module _ (a b c : WorkSeen) where
  rested : Pumps false a b → TakesOff false (length b.ins) b c → Rested a c
  rested p t = subst (λ (x : WorkSeen). Rested a x) (sym t.0) (record { ins_rest = p.passes; empty = t.1; rest = p.rest })

  pub passes : (came took : Bool) → Pumps came a b → TakesOff took (length b.ins) b c → Passes (came || took) a c
  passes true took p t =
      let behind : Steps b c = off_steps took (length b.ins) b c p.steps.sound t in
      (steps_on a b c p.steps behind, rises_first a b c p.steps behind p.passes)
  passes false true p t = (steps_on a b c p.steps t.0, rises_then a b c p.steps t.1)
  passes false false p t = (steps_on a b c p.steps (off_steps false (length b.ins) b c p.steps.sound t), rested p t)

-- a pass in which something moved
pub moved_by : (moved : Bool) (a b : WorkSeen) → moved ≡ true → Passes moved a b → Rises a b
moved_by moved a b is p = (subst (λ (m : Bool). Passes m a b) is p).1

-- and one in which nothing did
pub rested_by : (moved : Bool) (a b : WorkSeen) → moved ≡ false → Passes moved a b → Rested a b
rested_by moved a b is p = (subst (λ (m : Bool). Passes m a b) is p).1
