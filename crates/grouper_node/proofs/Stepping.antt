-- One step of a turn after another.
use Rattle.std.proofs.Common.{ℕ, ◌+◌, ◌<◌, ◌≡◌, None, Some, List, length, get_or, inl, inr, refl, ap, ◌∙◌, subst, arith, ⊎_elim, ◌⊎◌}
use Rattle.node_frames.specs.declared.frame.Frame.{Frame}
use Rattle.ds_base.specs.Faults.{Rose}
use Rattle.credit_link.specs.Ends.{TxSeen, RxSeen}
use Rattle.credit_link.specs.declared.link_bad.LinkBad.{LinkBad}
use Rattle.credit_link.specs.declared.link_bad.LinkBad.TheVariants.{Failed}
use Rattle.credit_link.specs.declared.turn.NodeFault.{NodeFault}
use Rattle.credit_link.specs.declared.turn.NodeFault.TheVariants.{Malformed, Read, Write, Link, OutOfMemory}
use Rattle.credit_link.specs.Pulling.{MeetsBad}
use Rattle.summary_spec.specs.Declaration.{Declared}
use Rattle.run_law.specs.Links.{MayFollow, ItemRule}
use Rattle.node_lanes.specs.Ends.{EndsTell}
use Rattle.node_lanes.specs.Faults.{TxMeets, RxFailed, MeetsOrder, RxMeets}
use Rattle.node_lanes.proofs.Going.{ins_same, ins_go_on, outs_same, outs_go_on, outs_tell, ins_tell, outs_calm_on, ins_calm_on}
use Rattle.net_law.specs.Groupers.{GrouperMeets}
use Rattle.grouper_node.specs.Works.{WorkSeen, grouper_of, shape_with, shape_in, IsSound}
use Rattle.grouper_node.specs.Steps.{WorkGoes, Steps, Rises, Fails}

pub goes_on : (a b c : WorkSeen) → WorkGoes a b → WorkGoes b c → WorkGoes a c
goes_on a b c f g = record {
  same = (g.same.0 ∙ f.same.0, g.same.1 ∙ f.same.1, g.same.2 ∙ f.same.2, g.same.3 ∙ f.same.3);
  ins = ins_go_on a.ins b.ins c.ins f.ins g.ins;
  outs = outs_go_on a.outs b.outs c.outs f.outs g.outs;
}

pub tells_on : (a b : WorkSeen) → WorkGoes a b → EndsTell a.ins a.outs.links → EndsTell b.ins b.outs.links
tells_on a b goes tells = record { ins = ins_tell a.ins b.ins goes.ins tells.ins; outs = outs_tell a.outs b.outs goes.outs tells.outs }

pub steps_same : (w : WorkSeen) → IsSound w → Steps w w
steps_same w h = record {
  sound = h;
  goes = record { same = (refl, refl, refl, refl); ins = ins_same w.ins; outs = outs_same w.outs };
  calm = ((λ j d less. (refl, refl)), (λ k d less. (refl, refl)));
  no_less = λ tells. omega arith;
}

pub steps_on : (a b c : WorkSeen) → Steps a b → Steps b c → Steps a c
steps_on a b c f g = record {
  sound = g.sound;
  goes = goes_on a b c f.goes g.goes;
  calm = (ins_calm_on a.ins b.ins c.ins f.goes.ins.as_many f.calm.0 g.calm.0, outs_calm_on a.outs b.outs c.outs f.goes.outs.as_many f.calm.1 g.calm.1);
  no_less = λ tells. omega (arith, f.no_less tells, g.no_less (tells_on a b f.goes tells));
}

pub rises_first : (a b c : WorkSeen) → Steps a b → Steps b c → Rises a b → Rises a c
rises_first a b c f g rises tells = omega (arith, rises tells, g.no_less (tells_on a b f.goes tells))

pub rises_then : (a b c : WorkSeen) → Steps a b → Rises b c → Rises a c
rises_then a b c f rises tells = omega (arith, f.no_less tells, rises (tells_on a b f.goes tells))

-- ---- a fault behind a step without one

rose_by : (a b n : ℕ) → b ≡ a → Rose b n → Rose a n
rose_by a b n same rose = subst (λ (m : ℕ). Rose m n) same rose

rx_later : (May : List Frame → Frame → Type 0) (a b c : RxSeen) (bad : LinkBad) → (b.forth.faults ≡ a.forth.faults) × (b.back.faults ≡ a.back.faults) → RxMeets May b c bad → RxMeets May a c bad
rx_later May a b c bad calm met =
    ⊎_elim
    (λ (failed : (bad ≡ Failed) × RxFailed b c).
    inl (
      failed.0,
      ⊎_elim (λ (up : Rose b.forth.faults c.forth.faults). inl (rose_by a.forth.faults b.forth.faults c.forth.faults calm.0 up))
          (λ (up : Rose b.back.faults c.back.faults). inr (rose_by a.back.faults b.back.faults c.back.faults calm.1 up)) failed.1,
    ))
    (λ (other : MeetsBad c.given c.finished c.box bad ⊎ MeetsOrder May c.given bad). inr other)
    met

tx_later : (a b c : TxSeen) (bad : LinkBad) → (b.forth.faults ≡ a.forth.faults) × (b.back.faults ≡ a.back.faults) → TxMeets b c bad → TxMeets a c bad
tx_later a b c bad calm m =
    record { kept = m.kept; mid = m.mid; stands = m.stands; quiet = m.quiet; calm = (m.calm.0 ∙ calm.0, m.calm.1 ∙ calm.1); same = m.same; cut = m.cut; fails = m.fails }

-- the rules of a link, where the job and the numbers are the same
rx_as : (job job' : Declared) (m n g me m' n' g' me' link : ℕ) (a c : RxSeen) (bad : LinkBad) → job' ≡ job → me' ≡ me → g' ≡ g → m' ≡ m → n' ≡ n
    → RxMeets (MayFollow (ItemRule job' (shape_with m' g' n') link me')) a c bad → RxMeets (MayFollow (ItemRule job (shape_with m g n) link me)) a c bad
rx_as job job' m n g me m' n' g' me' link a c bad jobs mes gs ms ns met =
    subst (λ (x : Declared). RxMeets (MayFollow (ItemRule x (shape_with m g n) link me)) a c bad) jobs
    (subst (λ (k : ℕ). RxMeets (MayFollow (ItemRule job' (shape_with m g n) link k)) a c bad) mes
    (subst (λ (k : ℕ). RxMeets (MayFollow (ItemRule job' (shape_with m k n) link me')) a c bad) gs
    (subst (λ (k : ℕ). RxMeets (MayFollow (ItemRule job' (shape_with k g' n) link me')) a c bad) ms
    (subst (λ (k : ℕ). RxMeets (MayFollow (ItemRule job' (shape_with m' g' k) link me')) a c bad) ns met))))

module _ (a b c : WorkSeen) (f : Steps a b) where
  meets_later : (bad : NodeFault) → GrouperMeets (grouper_of b None) (grouper_of c (Some bad)) bad → GrouperMeets (grouper_of a None) (grouper_of c (Some bad)) bad
  meets_later (Link link bad) met =
      ⊎_elim
      (λ (into : (link < length b.ins) × ((d : RxSeen) → RxMeets (MayFollow (ItemRule b.job (shape_in b) link b.me)) (get_or b.ins link d) (get_or c.ins link d) bad)).
      let there : link < length a.ins = subst (λ (n : ℕ). link < n) f.goes.ins.as_many into.0 in
      inl (
        there,
        λ d.
            rx_as a.job b.job (length a.ins) (length a.outs.links) a.groupers a.me (length b.ins) (length b.outs.links) b.groupers b.me link (get_or a.ins link d) (get_or c.ins link d) bad
            f.goes.same.0 f.goes.same.1 f.goes.same.2 f.goes.ins.as_many f.goes.outs.as_many
            (rx_later (MayFollow (ItemRule b.job (shape_in b) link b.me)) (get_or a.ins link d) (get_or b.ins link d) (get_or c.ins link d) bad (f.calm.0 link d there) (into.1 d)),
      ))
      (λ (out : (k : ℕ) × (link ≡ length b.ins + k) × (k < length b.outs.links) × ((d : TxSeen) → TxMeets (get_or b.outs.links k d) (get_or c.outs.links k d) bad)).
      let there : out.0 < length a.outs.links = subst (λ (n : ℕ). out.0 < n) f.goes.outs.as_many out.2 in
      inr (
        out.0,
        out.1 ∙ ap (λ (n : ℕ). n + out.0) f.goes.ins.as_many,
        there,
        λ d.
            tx_later (get_or a.outs.links out.0 d) (get_or b.outs.links out.0 d) (get_or c.outs.links out.0 d) bad (f.calm.1 out.0 d there) (out.3 d),
      ))
      met
  meets_later OutOfMemory met = tt
  meets_later (Malformed capture bad) met = met
  meets_later (Read capture) met = met
  meets_later Write met = met

  pub fails_on : (bad : NodeFault) → Fails b c bad → Fails a c bad
  fails_on bad g = record { goes = goes_on a b c f.goes g.goes; stands = g.stands; few = g.few; meets = meets_later bad g.meets }
