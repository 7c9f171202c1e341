-- One step of a turn after another.
use Rattle.std.proofs.Common.{ℕ, ◌<◌, ◌≤◌, ◌≡◌, None, Some, List, [], length, get_or, inl, inr, refl, ◌∙◌, subst, arith, ⊎_elim, ◌⊎◌}
use Rattle.node_frames.specs.declared.frame.Frame.{Frame}
use Rattle.ds_base.specs.Faults.{Rose}
use Rattle.credit_link.specs.Ends.{RxSeen}
use Rattle.credit_link.specs.declared.link_bad.LinkBad.{LinkBad}
use Rattle.credit_link.specs.declared.link_bad.LinkBad.TheVariants.{Failed}
use Rattle.credit_link.specs.declared.turn.NodeFault.{NodeFault}
use Rattle.credit_link.specs.declared.turn.NodeFault.TheVariants.{Malformed, Read, Write, Link, OutOfMemory}
use Rattle.credit_link.specs.Pulling.{MeetsBad}
use Rattle.summary_spec.specs.Declaration.{Declared}
use Rattle.run_law.specs.Links.{MayFollow, CountsRule, AnswerRule}
use Rattle.node_lanes.specs.Ends.{EndsTell}
use Rattle.node_lanes.specs.Faults.{RxFailed, MeetsOrder, RxMeets}
use Rattle.node_lanes.proofs.Going.{ins_tell, ins_calm_on}
use Rattle.net_law.specs.Merges.{MergeGoes, MergeMeets}
use Rattle.net_law.proofs.Going.{merge_stays, merge_then}
use Rattle.result_merge.specs.Works.{WorkSeen, merge_of, shape_by, IsSound}
use Rattle.result_merge.specs.Steps.{Steps, Rises, Fails}

pub tells_on : (a b : WorkSeen) → MergeGoes (merge_of a None) (merge_of b None) → EndsTell a.ins [] → EndsTell b.ins []
tells_on a b goes tells = record { ins = ins_tell a.ins b.ins goes.ins tells.ins; outs = tells.outs }

pub steps_same : (w : WorkSeen) → IsSound w → Steps w w
steps_same w h = record {
  sound = h;
  goes = merge_stays (merge_of w None);
  lent = refl;
  calm = λ j d less. (refl, refl);
  no_less = λ tells. omega arith;
}

pub steps_on : (a b c : WorkSeen) → Steps a b → Steps b c → Steps a c
steps_on a b c f g = record {
  sound = g.sound;
  goes = merge_then (merge_of a None) (merge_of b None) (merge_of c None) f.goes g.goes;
  lent = g.lent ∙ f.lent;
  calm = ins_calm_on a.ins b.ins c.ins f.goes.ins.as_many f.calm g.calm;
  no_less = λ tells. omega (arith, f.no_less tells, g.no_less (tells_on a b f.goes tells));
}

pub rises_first : (a b c : WorkSeen) → Steps a b → Steps b c → Rises a b → Rises a c
rises_first a b c f g rises tells = omega (arith, rises tells, g.no_less (tells_on a b f.goes tells))

pub rises_then : (a b c : WorkSeen) → Steps a b → Rises b c → Rises a c
rises_then a b c f rises tells = omega (arith, f.no_less tells, rises (tells_on a b f.goes tells))

-- ---- a fault behind a step without one

rose_by : (a b n : ℕ) → b ≡ a → Rose b n → Rose a n
rose_by a b n same rose = subst (λ (m : ℕ). Rose m n) same rose

rx_later : (May : List Frame → Frame → Type 0) (a b c : RxSeen) (bad : LinkBad) → (b.forth.faults ≡ a.forth.faults) × (b.back.faults ≡ a.back.faults) → RxMeets May b c bad → RxMeets May a c bad
rx_later May a b c bad calm met =
    ⊎_elim
    (λ (failed : (bad ≡ Failed) × RxFailed b c).
    inl (
      failed.0,
      ⊎_elim (λ (up : Rose b.forth.faults c.forth.faults). inl (rose_by a.forth.faults b.forth.faults c.forth.faults calm.0 up))
          (λ (up : Rose b.back.faults c.back.faults). inr (rose_by a.back.faults b.back.faults c.back.faults calm.1 up)) failed.1,
    ))
    (λ (other : MeetsBad c.given c.finished c.box bad ⊎ MeetsOrder May c.given bad). inr other)
    met

module _ (a b c : WorkSeen) (f : Steps a b) where
  on_parser : (link : ℕ) (bad : LinkBad) → link < b.parsers
      → ((groupers : ℕ) (d : RxSeen) → RxMeets (MayFollow (CountsRule b.job (shape_by b.parsers (length b.ins) groupers) link)) (get_or b.ins link d) (get_or c.ins link d) bad)
      → (link < a.parsers) × ((groupers : ℕ) (d : RxSeen) → RxMeets (MayFollow (CountsRule a.job (shape_by a.parsers (length a.ins) groupers) link)) (get_or a.ins link d) (get_or c.ins link d) bad)
  on_parser link bad less met =
      let there : link < length a.ins = omega (arith, less, f.sound.processors.0, f.goes.ins.as_many) in (
        subst (λ (n : ℕ). link < n) f.goes.same.1 less,
        λ groupers d.
            rx_later (MayFollow (CountsRule a.job (shape_by a.parsers (length a.ins) groupers) link)) (get_or a.ins link d) (get_or b.ins link d) (get_or c.ins link d) bad (f.calm link d there)
            (subst (λ (n : ℕ). RxMeets (MayFollow (CountsRule a.job (shape_by a.parsers n groupers) link)) (get_or b.ins link d) (get_or c.ins link d) bad) f.goes.ins.as_many
            (subst (λ (n : ℕ). RxMeets (MayFollow (CountsRule a.job (shape_by n (length b.ins) groupers) link)) (get_or b.ins link d) (get_or c.ins link d) bad) f.goes.same.1
            (subst (λ (job : Declared). RxMeets (MayFollow (CountsRule job (shape_by b.parsers (length b.ins) groupers) link)) (get_or b.ins link d) (get_or c.ins link d) bad) f.goes.same.0 (met groupers d)))),
      )

  on_processor : (link : ℕ) (bad : LinkBad) → b.parsers ≤ link → link < length b.ins → ((d : RxSeen) → RxMeets (MayFollow (AnswerRule b.job)) (get_or b.ins link d) (get_or c.ins link d) bad)
      → (a.parsers ≤ link) × (link < length a.ins) × ((d : RxSeen) → RxMeets (MayFollow (AnswerRule a.job)) (get_or a.ins link d) (get_or c.ins link d) bad)
  on_processor link bad past less met =
      let there : link < length a.ins = subst (λ (n : ℕ). link < n) f.goes.ins.as_many less in (
        subst (λ (n : ℕ). n ≤ link) f.goes.same.1 past,
        there,
        λ d.
            subst (λ (job : Declared). RxMeets (MayFollow (AnswerRule job)) (get_or a.ins link d) (get_or c.ins link d) bad) f.goes.same.0
            (rx_later (MayFollow (AnswerRule b.job)) (get_or a.ins link d) (get_or b.ins link d) (get_or c.ins link d) bad (f.calm link d there) (met d)),
      )

  meets_later : (bad : NodeFault) → MergeMeets (merge_of b None) (merge_of c (Some bad)) bad → MergeMeets (merge_of a None) (merge_of c (Some bad)) bad
  meets_later (Link link bad) met =
      ⊎_elim
      (λ (parser : (link < b.parsers) × ((groupers : ℕ) (d : RxSeen) → RxMeets (MayFollow (CountsRule b.job (shape_by b.parsers (length b.ins) groupers) link)) (get_or b.ins link d) (get_or c.ins link d) bad)).
      inl (on_parser link bad parser.0 parser.1))
      (λ (processor : (b.parsers ≤ link) × (link < length b.ins) × ((d : RxSeen) → RxMeets (MayFollow (AnswerRule b.job)) (get_or b.ins link d) (get_or c.ins link d) bad)).
      inr (on_processor link bad processor.0 processor.1 processor.2))
      met
  meets_later Write met = rose_by a.sink.faults b.sink.faults c.sink.faults (f.goes.calm refl) met
  meets_later OutOfMemory met = tt
  meets_later (Malformed capture bad) met = met
  meets_later (Read capture) met = met

  pub fails_on : (bad : NodeFault) → Fails b c bad → Fails a c bad
  fails_on bad g = record {
    goes = merge_then (merge_of a None) (merge_of b None) (merge_of c (Some bad)) f.goes g.goes;
    lent = g.lent ∙ f.lent;
    stands = g.stands;
    meets = meets_later bad g.meets;
  }
