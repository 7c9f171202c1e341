-- One node in a still round.
use Rattle.std.proofs.Common.{ℕ, ◌<◌, ◌≤◌, ◌≡◌, true, false, [], length, refl, ap, subst, ⊎_elim, arith}
use Rattle.std.specs.Prelude.{IsTrue}
use Rattle.std.proofs.lemmas.Bool.{cases_Bool, both_ways}
use Rattle.round_law.specs.Links.{new_sender, Sender, Receiver, new_receiver, has_finish, HasSentAll, HasTakenAll}
use Rattle.round_law.specs.Waits.{Node, in_at, out_at, PipeEnd, NoneWaits, WantsCredit, Waits, IsIdle, IsDone, DoneWaitsOnNothing}
use Rattle.round_law.specs.Waits.PipeEnd.{DataOut, CreditOut, DataIn, CreditIn}
use Rattle.round_law.proofs.Ends.{Meets, IsClear, owes_few, finished_is_clear, clear_has_none_left, clear_has_all, clear_wants_none}

-- the receiver at the other end of a link out
pub record Out (credits : ℕ) (sb sa : Sender) : Type 0 where
  pub before : Receiver
  pub after : Receiver
  pub meets : Meets credits sb sa before after
  pub clear : IsClear before after

-- the sender at the other end of a link in
pub record In (credits : ℕ) (rb ra : Receiver) : Type 0 where
  pub before : Sender
  pub after : Sender
  pub meets : Meets credits before after rb ra

module _ (credits : ℕ) (before after : Node) (ins : (j : ℕ) → j < length after.ins → In credits (in_at before j) (in_at after j)) where
  -- where a node is done, its links in are clear
  pub done_is_clear : IsDone after → (j : ℕ) → j < length after.ins → IsClear (in_at before j) (in_at after j)
  done_is_clear done j less =
      let other : In credits (in_at before j) (in_at after j) = ins j less in
      let all : HasTakenAll (in_at after j) = done.ins j (new_receiver 0) less in
      finished_is_clear credits other.before other.after (in_at before j) (in_at after j) other.meets all.finish all.owed

  module _ (idle : IsIdle credits before after) where
    -- an idle node owes no credit
    owes_none : (j : ℕ) → j < length after.ins → (in_at after j).owed ≡ 0
    owes_none j less =
        let other : In credits (in_at before j) (in_at after j) = ins j less in
        let within : (in_at after j).owed ≤ (in_at before j).slots = owes_few credits other.before other.after (in_at before j) (in_at after j) other.meets in
        let answered : 0 < (in_at after j).owed → (in_at before j).slots ≡ 0 = λ some. (idle.answered (CreditIn j) (less, some)).0 in
        by_owed (in_at after j).owed refl within answered
      where
        by_owed : (n : ℕ) → (in_at after j).owed ≡ n → n ≤ (in_at before j).slots → (0 < n → (in_at before j).slots ≡ 0) → n ≡ 0
        by_owed ℕ.zero e within answered = refl
        by_owed (ℕ.suc n) e within answered = let none : (in_at before j).slots ≡ 0 = answered (omega arith) in absurd (omega arith)

    module _ (outs : (k : ℕ) → k < length after.outs → Out credits (out_at before k) (out_at after k)) where
      none_left : (k : ℕ) → k < length after.outs → (out_at after k).left ≡ []
      none_left k less =
          let other : Out credits (out_at before k) (out_at after k) = outs k less in
          clear_has_none_left credits (out_at before k) (out_at after k) other.before other.after other.meets other.clear
          (λ some. (idle.answered (DataOut k) (less, some)).0)

      wants_none : (k : ℕ) → k < length after.outs → WantsCredit credits (out_at after k) → ⊥
      wants_none k less =
          let other : Out credits (out_at before k) (out_at after k) = outs k less in
          clear_wants_none credits (out_at before k) (out_at after k) other.before other.after other.meets other.clear (none_left k less)
          (λ wants. (idle.answered (CreditOut k) (less, wants)).0)

      -- an idle node whose links out are clear waits for frames alone: on some link in whose Finish it has not taken
      pub waits_for_frames : NoneWaits after × (j : ℕ) × (j < length after.ins) × (has_finish (in_at after j).given ≡ false)
      waits_for_frames = by_end idle.waits.0 idle.waits.1
        where
          by_end : (end : PipeEnd) → Waits credits after end → NoneWaits after × (j : ℕ) × (j < length after.ins) × (has_finish (in_at after j).given ≡ false)
          by_end (DataOut k) (less, some) = let none : length (out_at after k).left ≡ 0 = ap length (none_left k less) in absurd (omega arith)
          by_end (CreditOut k) (less, wants) = absurd (wants_none k less wants)
          by_end (DataIn j) (less, open_yet, none) = (none, j, less, open_yet)
          by_end (CreditIn j) (less, some) = let none : (in_at after j).owed ≡ 0 = owes_none j less in absurd (omega arith)

      -- and so its links in are clear
      pub idle_is_clear : (j : ℕ) → j < length after.ins → IsClear (in_at before j) (in_at after j)
      idle_is_clear j less =
          let other : In credits (in_at before j) (in_at after j) = ins j less in
          let free : NoneWaits after = waits_for_frames.0 in
          ⊎_elim
          (λ (has : has_finish (in_at after j).given ≡ true).
          finished_is_clear credits other.before other.after (in_at before j) (in_at after j) other.meets has (owes_none j less))
          (λ (has : has_finish (in_at after j).given ≡ false).
          record { items = (idle.answered (DataIn j) (less, has, free)).0; owed = owes_none j less; empty = idle.empty free j less has })
          (cases_Bool (has_finish (in_at after j).given))

      -- a node that has taken Finish from each link in is not idle
      pub idle_has_open : ((j : ℕ) → j < length after.ins → IsTrue (has_finish (in_at after j).given)) → ⊥
      idle_has_open all =
          let w = waits_for_frames in
          both_ways (has_finish (in_at after w.1).given) w.3 (all w.1 w.2)

-- a clear link whose sender is done has given its Finish
pub takes_finish : (credits : ℕ) (sb sa : Sender) (rb ra : Receiver) → Meets credits sb sa rb ra → IsClear rb ra → HasSentAll sa → IsTrue (has_finish ra.given)
takes_finish credits sb sa rb ra meets clear sent =
    subst (λ frames. IsTrue (has_finish frames)) (clear_has_all credits sb sa rb ra meets clear sent.left) sent.finish

-- who is done waits on nothing
pub done_waits_on_nothing : (credits : ℕ) (node : Node) → DoneWaitsOnNothing credits node
done_waits_on_nothing credits node some done (DataOut k) (less, left) =
    let none : length (out_at node k).left ≡ 0 = ap length (done.outs k new_sender less).left in
    omega arith
done_waits_on_nothing credits node some done (CreditOut k) (less, wants) =
    let none : (out_at node k).held ≡ 0 = (done.outs k new_sender less).held in
    ⊎_elim
    (λ (w : (0 < (out_at node k).waiting) × ((out_at node k).held ≡ credits)). let e : (out_at node k).held ≡ credits = w.1 in absurd (omega arith))
    (λ (w : IsTrue (has_finish (out_at node k).offered) × (0 < (out_at node k).held)). let e : 0 < (out_at node k).held = w.1 in absurd (omega arith))
    wants
done_waits_on_nothing credits node some done (DataIn j) (less, open_yet, free) =
    both_ways (has_finish (in_at node j).given) open_yet (done.ins j (new_receiver 0) less).finish
done_waits_on_nothing credits node some done (CreditIn j) (less, owes) =
    let none : (in_at node j).owed ≡ 0 = (done.ins j (new_receiver 0) less).owed in
    omega arith
