-- A look at links changes nothing that a turn says.
use Rattle.std.proofs.Common.{ℕ, ◌+◌, ◌*◌, ◌<◌, ◌≤◌, ◌≡◌, List, length, sym, ap, subst, ◌∙◌, inl, inr, ⊎_elim, arith}
use Rattle.std.specs.Prelude.{All, false}
use Rattle.std.specs.List.{sum_by}
use Rattle.std.proofs.lemmas.List.{get_or_default}
use Rattle.ds_base.specs.Faults.{Rose}
use Rattle.node_frames.specs.declared.frame.Frame.{Frame}
use Rattle.round_law.specs.Links.{Sender, Receiver, new_sender, new_receiver, has_finish, FinishIsLast, OpensNoFrame, IsCounted, IsGranted, HasSentAll, HasTakenAll}
use Rattle.round_law.specs.Waits.{Node, in_at, out_at, PipeEnd, silent_at, NoneWaits, WantsCredit, Waits, IsIdle, IsDone}
use Rattle.round_law.specs.Waits.PipeEnd.{DataOut, CreditOut, DataIn, CreditIn}
use Rattle.round_law.specs.Rows.{sent_by, taken_by, moved, taken_up, frames_beside, IsOrderly, OffersFew, StandsStill, PipesStay, IdleRow, DoneRow, Rests, SenderIsLookedAt, ReceiverIsLookedAt, IsLookedAt, LooksKeep}
use Rattle.round_law.proofs.Sums.{sum_same}

-- ---- one end: what does not speak of `room`, `coins`, `items` and `slots`

sender_again : (s t : Sender) → SenderIsLookedAt s t → record s { room = t.room; coins = t.coins } ≡ t
sender_again s t looked =
    ap (λ offered. record s { offered = offered; room = t.room; coins = t.coins }) (sym looked.offered)
    ∙ ap (λ waiting. record s { offered = t.offered; waiting = waiting; room = t.room; coins = t.coins }) (sym looked.waiting)
    ∙ ap (λ put. record s { offered = t.offered; waiting = t.waiting; put = put; room = t.room; coins = t.coins }) (sym looked.put)
    ∙ ap (λ left. record s { offered = t.offered; waiting = t.waiting; put = t.put; left = left; room = t.room; coins = t.coins }) (sym looked.left)
    ∙ ap (λ held. record s { offered = t.offered; waiting = t.waiting; put = t.put; left = t.left; held = held; room = t.room; coins = t.coins }) (sym looked.held)
    ∙ ap (λ back. record s { offered = t.offered; waiting = t.waiting; put = t.put; left = t.left; held = t.held; back = back; room = t.room; coins = t.coins }) (sym looked.back)
    ∙ ap (λ n. record s { offered = t.offered; waiting = t.waiting; put = t.put; left = t.left; held = t.held; back = t.back; room = t.room; coins = t.coins; put_silent = n }) (sym looked.put_silent)
    ∙ ap (λ n. record s { offered = t.offered; waiting = t.waiting; put = t.put; left = t.left; held = t.held; back = t.back; room = t.room; coins = t.coins; put_silent = t.put_silent; back_silent = n }) (sym looked.back_silent)

receiver_again : (r t : Receiver) → ReceiverIsLookedAt r t → record r { items = t.items; slots = t.slots } ≡ t
receiver_again r t looked =
    ap (λ got. record r { got = got; items = t.items; slots = t.slots }) (sym looked.got)
    ∙ ap (λ given. record r { got = t.got; given = given; items = t.items; slots = t.slots }) (sym looked.given)
    ∙ ap (λ box. record r { got = t.got; given = t.given; box = box; items = t.items; slots = t.slots }) (sym looked.box)
    ∙ ap (λ paid. record r { got = t.got; given = t.given; box = t.box; paid = paid; items = t.items; slots = t.slots }) (sym looked.paid)
    ∙ ap (λ owed. record r { got = t.got; given = t.given; box = t.box; paid = t.paid; owed = owed; items = t.items; slots = t.slots }) (sym looked.owed)
    ∙ ap (λ n. record r { got = t.got; given = t.given; box = t.box; paid = t.paid; owed = t.owed; items = t.items; slots = t.slots; got_silent = n }) (sym looked.got_silent)
    ∙ ap (λ n. record r { got = t.got; given = t.given; box = t.box; paid = t.paid; owed = t.owed; items = t.items; slots = t.slots; got_silent = t.got_silent; paid_silent = n }) (sym looked.paid_silent)

module _ (now after : Node) (looked : IsLookedAt now after) where
  all_out : (P : Sender → Type 0) → ((s : Sender) (room coins : ℕ) → P s → P (record s { room = room; coins = coins })) → All P now.outs → All P after.outs
  all_out P keeps all k d less =
      let there : k < length now.outs = subst (λ (n : ℕ). k < n) looked.out_count less in
      let same : P (out_at after k) =
      subst P (sender_again (out_at now k) (out_at after k) (looked.outs k there)) (keeps (out_at now k) (out_at after k).room (out_at after k).coins (all k new_sender there)) in
      subst P (get_or_default after.outs k new_sender d less) same

  all_in : (P : Receiver → Type 0) → ((r : Receiver) (items slots : ℕ) → P r → P (record r { items = items; slots = slots })) → All P now.ins → All P after.ins
  all_in P keeps all j d less =
      let there : j < length now.ins = subst (λ (n : ℕ). j < n) looked.in_count less in
      let same : P (in_at after j) =
      subst P (receiver_again (in_at now j) (in_at after j) (looked.ins j there)) (keeps (in_at now j) (in_at after j).items (in_at after j).slots (all j (new_receiver 0) there)) in
      subst P (get_or_default after.ins j (new_receiver 0) d less) same

  given_same : sum_by (λ (r : Receiver). length r.given) after.ins ≡ sum_by (λ (r : Receiver). length r.given) now.ins
  given_same = sum_same (λ (r : Receiver). length r.given) (new_receiver 0) now.ins after.ins looked.in_count (λ j less. ap length (looked.ins j less).given)

  taken_up_same : taken_up after ≡ taken_up now
  taken_up_same = let given = given_same in let records = looked.records in omega arith

  pub moved_same : moved after ≡ moved now
  moved_same =
      let read = looked.read in
      let records = looked.records in
      let outs : sum_by sent_by after.outs ≡ sum_by sent_by now.outs =
      sum_same sent_by new_sender now.outs after.outs looked.out_count
      (λ k less. let put : length (out_at after k).put ≡ length (out_at now k).put = ap length (looked.outs k less).put in let back = (looked.outs k less).back in omega arith) in
      let ins : sum_by taken_by after.ins ≡ sum_by taken_by now.ins =
      sum_same taken_by (new_receiver 0) now.ins after.ins looked.in_count
      (λ j less.
      let got : length (in_at after j).got ≡ length (in_at now j).got = ap length (looked.ins j less).got in
      let given : length (in_at after j).given ≡ length (in_at now j).given = ap length (looked.ins j less).given in
      let paid = (looked.ins j less).paid in
      omega arith) in
      omega arith

  few : OffersFew now → OffersFew after
  few all =
      subst (λ (taken : ℕ). All (λ (s : Sender). length s.offered ≤ 2 * taken + frames_beside) after.outs) (sym taken_up_same)
      (all_out (λ (s : Sender). length s.offered ≤ 2 * taken_up now + frames_beside) (λ s room coins h. h) all)

  orderly : IsOrderly now → IsOrderly after
  orderly h = record {
    granted = all_in (λ (r : Receiver). IsCounted r.given → IsGranted r) (λ r items slots g. g) h.granted;
    taken = all_in (λ (r : Receiver). FinishIsLast r.given) (λ r items slots g. g) h.taken;
    offered = all_out (λ (s : Sender). FinishIsLast s.offered) (λ s room coins g. g) h.offered;
  }

  done : IsDone now → IsDone after
  done h = record {
    ins = all_in HasTakenAll (λ r items slots g. record { finish = g.finish; owed = g.owed }) h.ins;
    outs = all_out HasSentAll (λ s room coins g. record { finish = g.finish; left = g.left; held = g.held }) h.outs;
    wrote_all = looked.wrote_all ∙ h.wrote_all;
  }

  -- ---- what it waits on

  none_waits : NoneWaits after → NoneWaits now
  none_waits all k d less =
      let there : k < length after.outs = subst (λ (n : ℕ). k < n) (sym looked.out_count) less in
      let one : (out_at after k).waiting ≡ 0 = all k new_sender there in
      let zero : (out_at now k).waiting ≡ 0 = sym (looked.outs k less).waiting ∙ one in
      subst (λ (s : Sender). s.waiting ≡ 0) (get_or_default now.outs k new_sender d less) zero

  none_waits_too : NoneWaits now → NoneWaits after
  none_waits_too = all_out (λ (s : Sender). s.waiting ≡ 0) (λ s room coins h. h)

  waits_back : (credits : ℕ) (end : PipeEnd) → Waits credits after end → Waits credits now end
  waits_back credits (DataOut k) (less, some) =
      let there : k < length now.outs = subst (λ (n : ℕ). k < n) looked.out_count less in
      (there, subst (λ (left : List ℕ). 0 < length left) (looked.outs k there).left some)
  waits_back credits (CreditOut k) (less, wants) =
      let there : k < length now.outs = subst (λ (n : ℕ). k < n) looked.out_count less in
      (there, subst (WantsCredit credits) (sym (sender_again (out_at now k) (out_at after k) (looked.outs k there))) wants)
  waits_back credits (DataIn j) (less, open_yet, none) =
      let there : j < length now.ins = subst (λ (n : ℕ). j < n) looked.in_count less in
      (there, subst (λ (frames : List Frame). has_finish frames ≡ false) (looked.ins j there).given open_yet, none_waits none)
  waits_back credits (CreditIn j) (less, some) =
      let there : j < length now.ins = subst (λ (n : ℕ). j < n) looked.in_count less in
      (there, subst (λ (n : ℕ). 0 < n) (looked.ins j there).owed some)

  waits_too : (credits : ℕ) (end : PipeEnd) → Waits credits now end → Waits credits after end
  waits_too credits (DataOut k) (less, some) =
      (subst (λ (n : ℕ). k < n) (sym looked.out_count) less, subst (λ (left : List ℕ). 0 < length left) (sym (looked.outs k less).left) some)
  waits_too credits (CreditOut k) (less, wants) =
      (subst (λ (n : ℕ). k < n) (sym looked.out_count) less, subst (WantsCredit credits) (sender_again (out_at now k) (out_at after k) (looked.outs k less)) wants)
  waits_too credits (DataIn j) (less, open_yet, none) =
      (subst (λ (n : ℕ). j < n) (sym looked.in_count) less, subst (λ (frames : List Frame). has_finish frames ≡ false) (sym (looked.ins j less).given) open_yet, none_waits_too none)
  waits_too credits (CreditIn j) (less, some) =
      (subst (λ (n : ℕ). j < n) (sym looked.in_count) less, subst (λ (n : ℕ). 0 < n) (sym (looked.ins j less).owed) some)

  silent_same : (credits : ℕ) (end : PipeEnd) → Waits credits after end → silent_at after end ≡ silent_at now end
  silent_same credits (DataOut k) (less, some) = (looked.outs k (subst (λ (n : ℕ). k < n) looked.out_count less)).put_silent
  silent_same credits (CreditOut k) (less, wants) = (looked.outs k (subst (λ (n : ℕ). k < n) looked.out_count less)).back_silent
  silent_same credits (DataIn j) (less, open_yet, none) = (looked.ins j (subst (λ (n : ℕ). j < n) looked.in_count less)).got_silent
  silent_same credits (CreditIn j) (less, some) = (looked.ins j (subst (λ (n : ℕ). j < n) looked.in_count less)).paid_silent

  module _ (credits : ℕ) (before : Node) where
    idle : IsIdle credits before now → IsIdle credits before after
    idle h = record {
      waits = (h.waits.0, waits_too credits h.waits.0 h.waits.1);
      answered = λ end waits.
          let zero = h.answered end (waits_back credits end waits) in
          (zero.0, subst (λ (n : ℕ). Rose (silent_at before end) n) (sym (silent_same credits end waits)) zero.1);
      empty = λ none j less open_yet.
          let there : j < length now.ins = subst (λ (n : ℕ). j < n) looked.in_count less in
          subst OpensNoFrame (sym (looked.ins j there).box)
          (h.empty (none_waits none) j there (subst (λ (frames : List Frame). has_finish frames ≡ false) (looked.ins j there).given open_yet));
    }

    still : StandsStill before now → StandsStill before after
    still h = record {
      read = looked.read ∙ h.read;
      records = looked.records ∙ h.records;
      wrote = looked.wrote ∙ h.wrote;
      wrote_all = looked.wrote_all ∙ h.wrote_all;
      in_count = looked.in_count ∙ h.in_count;
      out_count = looked.out_count ∙ h.out_count;
      given = λ j less. (looked.ins j (subst (λ (n : ℕ). j < n) (sym h.in_count) less)).given ∙ h.given j less;
    }

    pipes : StandsStill before now → PipesStay before now → PipesStay before after
    pipes counts h = record {
      ins = λ j less.
          let there : j < length now.ins = subst (λ (n : ℕ). j < n) (sym counts.in_count) less in
          record { got = (looked.ins j there).got ∙ (h.ins j less).got; paid = (looked.ins j there).paid ∙ (h.ins j less).paid };
      outs = λ k less.
          let there : k < length now.outs = subst (λ (n : ℕ). k < n) (sym counts.out_count) less in
          record { put = (looked.outs k there).put ∙ (h.outs k less).put; back = (looked.outs k there).back ∙ (h.outs k less).back };
    }

    rests : Rests credits before now → Rests credits before after
    rests h = record {
      row = ⊎_elim
          (λ (row : IdleRow credits before now). inl (record { still = still row.still; idle = idle row.idle; orderly = orderly row.orderly; few = few row.few }))
          (λ (row : DoneRow before now). inr (record { still = still row.still; done = done row.done; orderly = orderly row.orderly; few = few row.few }))
          h.row;
      pipes = pipes (⊎_elim (λ (row : IdleRow credits before now). row.still) (λ (row : DoneRow before now). row.still) h.row) h.pipes;
    }

pub looks_keep : (credits : ℕ) (before now after : Node) → LooksKeep credits before now after
looks_keep credits before now after looked h = rests now after looked credits before h
