-- The promise of a grouper, from what was put on its links.
use Rattle.std.proofs.Common.{ℕ, Bool, true, List, [], ◌∷◌, ◌++◌, ◌≡◌, ◌<◌, ◌≤◌, ◌+◌, ◌-◌, ◌%◌, Option, Some, None, inl, inr, sym, subst, ⊎_elim, arith, length}
use Rattle.std.proofs.lemmas.Bool.{cases_lt}
use Rattle.ds_base.specs.Copies.{Copies}
use Rattle.ds_base.specs.Fronts.{IsIn, PrecedesEach, InOrder}
use Rattle.ds_base.specs.Order.{Precedes}
use Rattle.ds_base.specs.declared.stamp.Stamp.{Stamp}
use Rattle.node_frames.specs.declared.frame.Frame.{Frame}
use Rattle.summary_spec.specs.Declaration.{Declared}
use Rattle.window_grouper.proofs.Stamps.{not_both_ways}
use Rattle.run_law.specs.Nodes.{began, least_of_captures, groups_closed, GrouperKeeps}
use Rattle.run_law.specs.Shapes.{Shape, dealt, IsFront}
use Rattle.run_law.proofs.Lists.{in_front, dealt_front, of_dealt}
use Rattle.run_law.proofs.Ordered.{lead}
use Rattle.grouper_state.specs.Outgoing.{Outgoing}
use Rattle.grouper_state.specs.Puts.{LinkHas}
use Rattle.grouper_state.proofs.Dealt.{dealt_own, in_last}
use Rattle.grouper_state.proofs.Frames.{said_finish}

-- the last mark is not past what is still to be sent
pub record IsLate (job : Declared) (shape : Shape) (me : ℕ) (taken : ℕ → List Frame) (done : List Copies) (mark : ℕ) : Type 0 where
  pub low : (l : ℕ) → least_of_captures job shape taken ≡ Some l → mark ≤ l - job.window
  pub late : (q : ℕ) (x : Copies) → q < shape.processors → IsIn x (dealt shape.processors me q (groups_closed job shape taken)) → began x < mark
      → IsIn x (dealt shape.processors me q done)

-- the same as more groups are sent
pub late_more : (job : Declared) (shape : Shape) (me : ℕ) (taken : ℕ → List Frame) (done done' : List Copies) (mark : ℕ) → IsFront done done'
    → IsLate job shape me taken done mark → IsLate job shape me taken done' mark
late_more job shape me taken done done' mark front h = record {
  low = h.low;
  late = λ q x hq there less.
      in_front x (dealt shape.processors me q done) (dealt shape.processors me q done') (dealt_front shape.processors me q done done' front) (h.late q x hq there less);
}

-- where all closed groups were sent, the least mark less the window may be put
pub late_mark : (job : Declared) (shape : Shape) (me : ℕ) (taken : ℕ → List Frame) (done : List Copies) (l : ℕ) → least_of_captures job shape taken ≡ Some l
    → groups_closed job shape taken ≡ done → IsLate job shape me taken done (l - job.window)
late_mark job shape me taken done l is all = record {
  low = λ k e. let same : l ≡ k = cc in omega (arith, same);
  late = λ q x hq there less. subst (λ (xs : List Copies). IsIn x (dealt shape.processors me q xs)) all there;
}

module _ (job : Declared) (shape : Shape) (me : ℕ) (taken put : ℕ → List Frame) (done : List Copies) (going : Option Outgoing) (turn mark marks : ℕ) (finished : Bool)
    (links : (q : ℕ) → q < shape.processors → LinkHas job shape.processors me q (put q) done going turn mark marks finished) where
  -- what the promise says of the last mark
  pub late_of : 0 < shape.processors → GrouperKeeps job shape me taken put → IsLate job shape me taken done mark
  late_of some keeps = record {
    low = λ l is.
        ⊎_elim
        (λ (up : 0 < mark). keeps.marks 0 mark l some ((links 0 some).last up) is)
        (λ (none : mark ≤ 0). omega (arith, none))
        (cases_lt 0 mark);
    late = λ q x hq there less.
        subst (λ (xs : List Copies). IsIn x xs) (links q hq).groups
        (keeps.whole q mark x hq ((links q hq).last (omega (arith, less))) there less);
  }

  -- and back
  pub promised : IsFront done (groups_closed job shape taken) → IsLate job shape me taken done mark
      → (finished ≡ true → (least_of_captures job shape taken ≡ None) × (done ≡ groups_closed job shape taken)) → GrouperKeeps job shape me taken put
  promised front late over = record {
    lawful = λ q hq. (links q hq).lawful;
    sent = done;
    closed = front;
    in_turn = λ q hq. (links q hq).groups;
    marks = λ q m l hq there is. let told = (links q hq).told m there in let low = late.low l is in omega (arith, told, low);
    whole = λ q m x hq there goes less.
        let told = (links q hq).told m there in
        subst (λ (xs : List Copies). IsIn x xs) (sym (links q hq).groups) (late.late q x hq goes (omega (arith, less, told)));
    finish = λ q hq there. over (said_finish (put q) finished (links q hq).ends there);
  }

-- ---- the group whose turn it is

-- of groups in order the one behind comes after each before it
pub each_before : (done rest : List Copies) (x : Copies) → InOrder lead (done ++ x ∷ rest) → (y : Copies) → IsIn y done → Precedes (lead y) (lead x)
each_before [] rest x h y there = absurd there
each_before (z ∷ zs) rest x h y (inl e) = subst (λ (w : Copies). Precedes (lead w) (lead x)) (sym e) (behind (lead z) zs h.0)
  where
    behind : (at : Stamp) (zs : List Copies) → PrecedesEach lead at (zs ++ x ∷ rest) → Precedes at (lead x)
    behind at [] p = p.0
    behind at (w ∷ ws) p = behind at ws p.1
each_before (z ∷ zs) rest x h y (inr l) = each_before zs rest x h.1 y l

-- and no mark is past it
pub not_past : (job : Declared) (shape : Shape) (me turn : ℕ) (taken : ℕ → List Frame) (done : List Copies) (x : Copies) (mark : ℕ) → turn < shape.processors
    → (me + length done) % shape.processors ≡ turn → IsFront (done ++ x ∷ []) (groups_closed job shape taken) → InOrder lead (done ++ x ∷ [])
    → IsLate job shape me taken done mark → mark ≤ began x
not_past job shape me turn taken done x mark within own front order h =
    ⊎_elim
    (λ (less : began x < mark).
    let goes : IsIn x (dealt shape.processors me turn (done ++ x ∷ [])) =
    subst (λ (xs : List Copies). IsIn x xs) (sym (dealt_own shape.processors me turn done x own)) (in_last (dealt shape.processors me turn done) x) in
    let closed : IsIn x (dealt shape.processors me turn (groups_closed job shape taken)) =
    in_front x (dealt shape.processors me turn (done ++ x ∷ [])) (dealt shape.processors me turn (groups_closed job shape taken))
    (dealt_front shape.processors me turn (done ++ x ∷ []) (groups_closed job shape taken) front) goes in
    let sent : IsIn x done = of_dealt shape.processors me turn x done (h.late turn x within closed less) in
    let twice : Precedes (lead x) (lead x) = each_before done [] x order x sent in
    absurd (not_both_ways (lead x) (lead x) twice twice))
    (λ (le : mark ≤ began x). le)
    (cases_lt (began x) mark)
