-- Ends of rings that were looked at have met no fault.
use Rattle.std.proofs.Common.{ℕ, List, [], ◌∷◌, ◌++◌, ◌≡◌, ◌≢◌, ◌+◌, ◌-◌, ◌^◌, Some, None, take, drop, replicate, refl, sym, ap, subst, ◌∙◌, inl, inr, ⊎_elim, arith, append_assoc, take-append-drop}
use Rattle.std.specs.Prelude.{IsTrue}
use Rattle.ds_base.specs.Faults.{Rose}
use Rattle.node_frames.specs.declared.frame.Frame.{Frame}
use Rattle.credit_link.specs.declared.link_bad.LinkBad.{LinkBad}
use Rattle.credit_link.specs.declared.link_bad.LinkBad.TheVariants.{Credit}
use Rattle.credit_link.specs.Ends.{TxSeen, RxSeen, TxStands, RxStands}
use Rattle.credit_link.specs.Frames.{IsCounted, capped}
use Rattle.credit_link.specs.Joined.{AreJoined}
use Rattle.credit_link.specs.Pulling.{MeetsBad}
use Rattle.credit_link.specs.Pumping.{PutsOut, TakesNoCredit, TxFails, FailsBack}
use Rattle.credit_link.proofs.Joining.{frames_are_a_prefix, no_fault_stands_next, each_byte_is_a_credit}
use Rattle.run_law.specs.Links.{MayFollow, AreLawful}
use Rattle.run_law.specs.Shapes.{IsFront}
use Rattle.run_law.proofs.Standing.{lawful_parts}
use Rattle.node_lanes.specs.Faults.{TxMeets, RxMeets, RxFailed, MeetsOrder}
use Rattle.net_law.specs.Steps.{TxLooked, RxLooked, AreLooked}

never_rose : (old new : ℕ) → new ≡ 0 → Rose old new → ⊥
never_rose old new none (inl up) = omega arith
never_rose old new none (inr stood) = let at : old ≡ 2 ^ 64 - 1 = stood.0 in let same : new ≡ old = stood.1 in omega arith

-- ---- a sending end

-- the end behind a pump of its data pipe, with the answers of before
abbrev pumped : (mid after : TxSeen) → TxSeen
pumped mid after = record mid { left = after.left; forth = record mid.forth { bytes = after.forth.bytes } }

pumped_stands : (mid after : TxSeen) (cut n : ℕ) → TxStands mid → IsTrue mid.forth.told → PutsOut mid after cut n → TxStands (pumped mid after)
pumped_stands mid after cut n stands told puts = record {
  sender = record {
    some = stands.sender.some;
    within = stands.sender.within;
    most = stands.sender.most;
    most_within = stands.sender.most_within;
    repaid_fits = stands.sender.repaid_fits;
    counts = stands.sender.counts;
    spelled = stands.sender.spelled;
    ended = stands.sender.ended;
    last = stands.sender.last;
  };
  pipes = record {
    put = λ counted tells.
        ap (λ (bytes : List ℕ). bytes ++ after.left) (puts.bytes told)
        ∙ ap (λ (left : List ℕ). (mid.forth.bytes ++ take n mid.left) ++ left) (ap (λ (l : TxSeen). l.left) puts.same)
        ∙ append_assoc mid.forth.bytes (take n mid.left) (drop n mid.left)
        ∙ ap (λ (bytes : List ℕ). mid.forth.bytes ++ bytes) (take-append-drop n mid.left)
        ∙ stands.pipes.put counted tells;
    forth_heard = stands.pipes.forth_heard;
    back_heard = stands.pipes.back_heard;
    repaid = stands.pipes.repaid;
  };
}

-- the end after it took a byte that is no credit
abbrev taken_none : (tx after : TxSeen) (taken : ℕ) → LinkBad → TxSeen
taken_none tx after taken bad = record tx { held = tx.held - taken; repaid = capped (tx.repaid + taken); fault = Some bad; back = after.back }

no_bad_credit : (number cut n : ℕ) (mid next after seen : TxSeen) (rx : RxSeen) (bad : LinkBad) → TxStands mid → mid.fault ≡ None → IsCounted mid.offered
    → IsTrue mid.forth.told × IsTrue mid.back.told × IsTrue rx.forth.told × IsTrue rx.back.told → RxStands rx
    → PutsOut mid next cut n → TxLooked after seen → AreLooked number seen rx → ¬ TakesNoCredit next after bad
no_bad_credit number cut n mid next after seen rx bad stands quiet counted told receiving puts look looked none =
    let held : next.held ≡ mid.held = ap (λ (l : TxSeen). l.held) puts.same in
    let repaid : next.repaid ≡ mid.repaid = ap (λ (l : TxSeen). l.repaid) puts.same in
    let back : next.back ≡ mid.back = ap (λ (l : TxSeen). l.back) puts.same in
    let gone : next.forth.bytes ≡ rx.forth.bytes ++ looked.bytes.between = sym (look.forth.bytes ∙ ap (λ (l : TxSeen). l.forth.bytes) none.same) ∙ looked.bytes.sent in
    let coins : List ℕ = replicate none.taken 1 ++ none.got ∷ none.rest in
    let took : after.back.bytes ≡ mid.back.bytes ++ (replicate none.taken 1 ++ none.got ∷ none.rest) =
    none.bytes (ap (λ pipe. Rattle.ds_base.specs.Pipes.PipeSeen.told pipe) back ∙ told.1) ∙ ap (λ pipe. Rattle.ds_base.specs.Pipes.PipeSeen.bytes pipe ++ (replicate none.taken 1 ++ none.got ∷ none.rest)) back in
    let paid : rx.back.bytes ≡ after.back.bytes ++ looked.credits.between = looked.credits.sent ∙ ap (λ (bytes : List ℕ). bytes ++ looked.credits.between) look.back.bytes in
    let joined : AreJoined (pumped mid next) rx = record {
      sending = pumped_stands mid next cut n stands told.0 puts;
      receiving = receiving;
      told = told;
      counted = counted;
      bytes = (looked.bytes.between, gone);
      credits = (
        (replicate none.taken 1 ++ none.got ∷ none.rest) ++ looked.credits.between,
        paid ∙ ap (λ (bytes : List ℕ). bytes ++ looked.credits.between) took ∙ append_assoc mid.back.bytes (replicate none.taken 1 ++ none.got ∷ none.rest) looked.credits.between,
      );
    } in
    each_byte_is_a_credit (pumped mid next) (taken_none (pumped mid next) after none.taken bad) rx looked.credits.between bad joined quiet paid (record {
      taken = none.taken;
      got = none.got;
      rest = none.rest;
      named = none.named ∙ ap (λ (m : ℕ). Credit (capped (m + none.taken)) none.got) repaid;
      wrong = ⊎_elim (λ (w : none.got ≢ 1). inl w) (λ (w : none.taken ≡ next.held). inr (w ∙ held)) none.wrong;
      within = let most = none.within in omega arith;
      same = refl;
      bytes = λ tells. took;
      told = none.told ∙ ap (λ pipe. Rattle.ds_base.specs.Pipes.PipeSeen.told pipe) back;
    })

pub no_tx_fault : (number : ℕ) (before after seen : TxSeen) (rx : RxSeen) (bad : LinkBad) → TxLooked after seen → AreLooked number seen rx
    → IsTrue seen.forth.told × IsTrue seen.back.told × IsTrue rx.forth.told × IsTrue rx.back.told → RxStands rx → IsCounted seen.offered → ¬ TxMeets before after bad
no_tx_fault number before after seen rx bad look looked told receiving counted meets = by_case meets.fails
  where
    forth_calm : after.forth.faults ≡ 0
    forth_calm = sym look.forth.faults ∙ looked.calm.0

    back_calm : after.back.faults ≡ 0
    back_calm = sym look.back.faults ∙ looked.calm.1

    offered : seen.offered ≡ meets.mid.offered
    offered = ap (λ (l : TxSeen). l.offered) look.same ∙ meets.same.offered

    tells : IsTrue meets.mid.forth.told × IsTrue meets.mid.back.told × IsTrue rx.forth.told × IsTrue rx.back.told
    tells = (sym meets.same.told.0 ∙ sym look.forth.told ∙ told.0, sym meets.same.told.1 ∙ sym look.back.told ∙ told.1, told.2, told.3)

    by_back : (next : TxSeen) (n : ℕ) → PutsOut meets.mid next meets.cut n → FailsBack next after bad → ⊥
    by_back next n puts (inl failed) = never_rose next.back.faults after.back.faults back_calm failed.2.faults
    by_back next n puts (inr none) =
        no_bad_credit number meets.cut n meets.mid next after seen rx bad meets.stands meets.quiet (subst IsCounted offered counted) tells receiving puts look looked none

    by_case : TxFails meets.mid after meets.cut bad → ⊥
    by_case (inl failed) = never_rose meets.mid.forth.faults after.forth.faults forth_calm failed.2.faults
    by_case (inr (next, n, puts, fails)) = by_back next n puts fails

-- ---- a receiving end

pub no_rx_fault : (MayStand : List Frame → Frame → Type 0) (number : ℕ) (before after seen : RxSeen) (tx : TxSeen) (bad : LinkBad) → RxLooked after seen → AreLooked number tx seen → AreJoined tx seen
    → ((frames : List Frame) (frame : Frame) → IsFront (frames ++ frame ∷ []) tx.offered → MayStand frames frame) → ¬ RxMeets MayStand before after bad
no_rx_fault MayStand number before after seen tx bad look looked joined lawful meets = by_case meets
  where
    given : seen.given ≡ after.given
    given = ap (λ (l : RxSeen). l.given) look.same

    by_pipe : RxFailed before after → ⊥
    by_pipe (inl up) = never_rose before.forth.faults after.forth.faults (sym look.forth.faults ∙ looked.calm.2) up
    by_pipe (inr up) = never_rose before.back.faults after.back.faults (sym look.back.faults ∙ looked.calm.3) up

    next : MeetsBad after.given after.finished after.box bad → MeetsBad seen.given seen.finished seen.box bad
    next h = subst (λ (l : RxSeen). MeetsBad l.given l.finished l.box bad) (sym look.same) h

    by_order : MeetsOrder MayStand after.given bad → ⊥
    by_order order =
        let prefix = frames_are_a_prefix tx seen joined in
        order.wrong (lawful order.frames order.frame (record { rest = prefix.0; joined = prefix.1 ∙ ap (λ (frames : List Frame). frames ++ prefix.0) (given ∙ order.last) }))

    by_case : RxMeets MayStand before after bad → ⊥
    by_case (inl failed) = by_pipe failed.1
    by_case (inr (inl stands)) = no_fault_stands_next tx seen bad joined (next stands)
    by_case (inr (inr order)) = by_order order

-- the last of some first lawful frames may stand where it stands
pub last_may_stand : (Own : List Frame → Frame → Type 0) (all frames : List Frame) (frame : Frame) → AreLawful Own all → IsFront (frames ++ frame ∷ []) all → MayFollow Own frames frame
last_may_stand Own all frames frame lawful front =
    let parts = lawful_parts Own [] (frames ++ frame ∷ []) front.rest (subst (AreLawful Own) front.joined lawful) in
    (lawful_parts Own [] frames (frame ∷ []) parts.0).1.0
