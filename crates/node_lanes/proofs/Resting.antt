-- A node in which nothing moved is idle or done.
use Rattle.std.proofs.Common.{ℕ, zero, suc, ◌^◌, ◌-◌, ◌<◌, ◌≤◌, ◌≡◌, IsTrue, Bool, true, false, List, [], ◌∷◌, ◌++◌, length, get_or, refl, sym, ap, ◌∙◌, subst, arith, append-nil, ⊎_elim, ◌⊎◌, inl, inr}
use Rattle.std.specs.List.{All}
use Rattle.std.proofs.lemmas.List.{nil_from_length, length-map}
use Rattle.std.proofs.lemmas.Bool.{cases_Bool}
use Rattle.ds_base.specs.Faults.{Rose}
use Rattle.ds_base.specs.Pipes.{PipeSeen}
use Rattle.node_frames.specs.declared.frame.Frame.{Frame}
use Rattle.credit_link.specs.Frames.{has_finish, FinishIsLast, IsCounted}
use Rattle.credit_link.specs.Moves.{IsHeard}
use Rattle.credit_link.specs.Ends.{TxSeen, RxSeen}
use Rattle.shuffle_poll.specs.Lanes.{LaneSeen}
use Rattle.shuffle_poll.specs.Shuffles.{ShuffleSeen, lane_of, IsSettled}
use Rattle.round_law.specs.Links.{Sender, Receiver, new_sender, new_receiver, HasTakenAll, HasSentAll, IsGranted, OpensNoFrame}
use Rattle.round_law.specs.Rows.{StandsStill, PipesStay, IsOrderly, OffersFew, IdleRow, DoneRow}
use Rattle.round_law.specs.Views.{sender_view, receiver_view, TxTells, RxTells}
use Rattle.round_law.specs.Waits.{Node, PipeEnd, NoneWaits, WantsCredit, Waits, AnsweredIn, IsIdle, IsDone}
use Rattle.round_law.specs.Waits.PipeEnd.{DataOut, CreditOut, DataIn, CreditIn}
use Rattle.round_law.proofs.Views.{part_opens_none, part_is_short, answered_again, rx_is_granted}
use Rattle.node_lanes.specs.Ends.{put_on, senders_of, receivers_of, EndsTell, InsStand, InsAreQuiet, OutsStand}
use Rattle.node_lanes.specs.Passes.{EndRests, OutRests, InRests, InsRest, OutsRest}
use Rattle.node_lanes.specs.Resting.{node_with, no_outs, NoneHeld, AllEnded, HasTakenEach, IsSettledEach, SomeToTake, SomeToSettle, HasRested}
use Rattle.node_lanes.proofs.Listed.{before_or_not, puts_at, senders_long, senders_at}
use Rattle.node_lanes.proofs.Pumped.{receivers_at, some_of}

-- ---- nodes without links in, or without links out

pub no_ins_rest : InsRest [] []
no_ins_rest j d less = absurd (omega (arith, less))

pub no_outs_rest : OutsRest no_outs no_outs
no_outs_rest k d less = absurd (omega (arith, less))

pub no_ins_stand : (number : ℕ) → InsStand number []
no_ins_stand number = record { stand = λ j d less. absurd (omega (arith, less)); credits = λ j d less. absurd (omega (arith, less)) }

pub no_outs_stand : (number : ℕ) → OutsStand number no_outs
no_outs_stand number = record {
  holds = record { as_many = refl; few = omega arith; stand = λ k d less. absurd (omega (arith, less)); two = λ k. omega arith; last = λ k d less. absurd (omega (arith, less)) };
  credits = λ k d less. absurd (omega (arith, less));
}

-- ---- two passes one after the other

heard_again : (a b c end : ℕ) → (b ≡ a) ⊎ ((a < b) ⊎ ((a ≡ end) × (b ≡ a))) → (c ≡ b) ⊎ ((b < c) ⊎ ((b ≡ end) × (c ≡ b))) → (c ≡ a) ⊎ ((a < c) ⊎ ((a ≡ end) × (c ≡ a)))
heard_again a b c end first second = grind arith

ends_again : (start mid after : PipeSeen) (A B : Type 0) → EndRests start mid A → EndRests mid after B → IsHeard after → EndRests start after B
ends_again start mid after A B first second heard = record {
  sure = omega (arith, first.sure, second.sure);
  heard = heard_again start.silent mid.silent after.silent (2 ^ 64 - 1) first.heard second.heard;
  zero = λ waits. answered_again start mid after first.sure first.heard heard (second.zero waits);
}

-- a second poll in which nothing moved, where frames may have been put between the two
pub rest_again : (number : ℕ) (start mid put after : ShuffleSeen) → OutsRest start mid → put.links ≡ mid.links → length mid.links ≡ length start.links → OutsRest put after → length after.links ≡ length put.links → OutsStand number after
    → OutsRest start after
rest_again number start mid put after first same long second more stand k d there =
    let one : OutRests (lane_of start k d) (lane_of mid k d) = first k d there in
    let tx : get_or put.links k d ≡ get_or mid.links k d = ap (λ (l : List TxSeen). get_or l k d) same in
    let two : OutRests (lane_of put k d) (lane_of after k d) = second k d (omega (arith, there, long, ap length same)) in
    let standing = stand.holds.stand k d (omega (arith, there, long, more, ap length same)) in
    record {
      told = (two.told.0 ∙ ap (λ (l : TxSeen). l.forth.told) tx ∙ one.told.0, two.told.1 ∙ ap (λ (l : TxSeen). l.back.told) tx ∙ one.told.1);
      stays = λ tells.
          let here = one.stays tells in
          let told : TxTells (get_or put.links k d) = subst (λ (l : TxSeen). TxTells l) (sym tx) (tells_on (lane_of start k d) (lane_of mid k d) one tells) in
          let there = two.stays told in
          record {
            put = there.put ∙ ap (λ (l : TxSeen). l.forth.bytes) tx ∙ here.put;
            back = there.back ∙ ap (λ (l : TxSeen). length l.back.bytes) tx ∙ here.back;
          };
      forth = ends_again (get_or start.links k d).forth (get_or mid.links k d).forth (get_or after.links k d).forth (0 < length (get_or mid.links k d).left) (0 < length (get_or after.links k d).left)
          one.forth (subst (λ (l : TxSeen). EndRests l.forth (get_or after.links k d).forth (0 < length (get_or after.links k d).left)) tx two.forth) standing.pipes.forth_heard;
      back = ends_again (get_or start.links k d).back (get_or mid.links k d).back (get_or after.links k d).back (0 < (get_or mid.links k d).held) (0 < (get_or after.links k d).held)
          one.back (subst (λ (l : TxSeen). EndRests l.back (get_or after.links k d).back (0 < (get_or after.links k d).held)) tx two.back) standing.pipes.back_heard;
      unready = two.unready;
    }
  where
    tells_on : (a b : LaneSeen) → OutRests a b → TxTells a.tx → TxTells b.tx
    tells_on a b rests tells = record { forth = subst IsTrue (sym rests.told.0) tells.forth; back = subst IsTrue (sym rests.told.1) tells.back }

-- ---- searches

some_wait : (queues : List (List Frame)) → ((k : ℕ) → get_or queues k [] ≡ []) ⊎ ((k : ℕ) × (k < length queues) × (0 < length (get_or queues k [])))
some_wait [] = inl (λ k. refl)
some_wait ([] ∷ queues) =
    ⊎_elim (λ (none : (k : ℕ) → get_or queues k [] ≡ []). inl (none_behind none))
    (λ (some : (k : ℕ) × (k < length queues) × (0 < length (get_or queues k []))). inr (suc some.0, omega (arith, some.1), some.2)) (some_wait queues)
  where
    none_behind : ((k : ℕ) → get_or queues k [] ≡ []) → (k : ℕ) → get_or ([] ∷ queues) k [] ≡ []
    none_behind none zero = refl
    none_behind none (suc k) = none k
some_wait ((f ∷ fs) ∷ queues) = inr (0, omega arith, omega arith)

some_open : (ins : List RxSeen) → AllEnded ins ⊎ ((j : ℕ) × (j < length ins) × ((d : RxSeen) → has_finish (get_or ins j d).given ≡ false))
some_open [] = inl (λ j d less. absurd (omega (arith, less)))
some_open (x ∷ ins) =
    ⊎_elim
    (λ (yes_ended : has_finish x.given ≡ true).
    ⊎_elim (λ (all : AllEnded ins). inl (all_ended yes_ended all))
    (λ (some : (j : ℕ) × (j < length ins) × ((d : RxSeen) → has_finish (get_or ins j d).given ≡ false)). inr (suc some.0, omega (arith, some.1), some.2)) (some_open ins))
    (λ (goes_on : has_finish x.given ≡ false). inr (0, omega arith, (λ d. goes_on)))
    (cases_Bool (has_finish x.given))
  where
    all_ended : has_finish x.given ≡ true → AllEnded ins → AllEnded (x ∷ ins)
    all_ended first all zero d less = first
    all_ended first all (suc j) d less = all j d (omega (arith, less))

none_or_some : (n : ℕ) → (n ≡ 0) ⊎ (0 < n)
none_or_some n = grind arith

pub tx_of_list : (links : List TxSeen) (k : ℕ) → k < length links → TxSeen
tx_of_list [] k less = absurd (omega arith)
tx_of_list (l ∷ links) k less = l

rose_by : (a b a' b' : ℕ) → a' ≡ a → b' ≡ b → Rose a b → Rose a' b'
rose_by a b a' b' first second rose = subst (λ (n : ℕ). Rose n b') (sym first) (subst (λ (n : ℕ). Rose a n) (sym second) rose)

past_nil : (queues : List (List Frame)) (k : ℕ) → length queues ≤ k → get_or queues k [] ≡ []
past_nil [] k past = refl
past_nil (q ∷ queues) zero past = absurd (omega arith)
past_nil (q ∷ queues) (suc k) past = past_nil queues k (omega (arith, past))

-- ---- the node

module _ (number : ℕ) (ins ins' : List RxSeen) (outs outs' : ShuffleSeen) (w : HasRested number ins ins' outs outs') (r s v r' s' v' : ℕ) (b b' : Bool) where
  abbrev before : Node
  before = node_with r s v b ins outs

  abbrev after : Node
  after = node_with r' s' v' b' ins' outs'

  sender_before : (k : ℕ) (d : TxSeen) → k < length outs'.links → get_or (senders_of outs) k new_sender ≡ sender_view (length (get_or outs.queues k [])) (get_or outs.links k d)
  sender_before k d there = senders_at outs.links outs.queues k new_sender d (omega (arith, there, w.as_many.1))

  sender_after : (k : ℕ) (d : TxSeen) → k < length outs'.links → get_or (senders_of outs') k new_sender ≡ sender_view (length (get_or outs'.queues k [])) (get_or outs'.links k d)
  sender_after k d there = senders_at outs'.links outs'.queues k new_sender d there

  receiver_before : (j : ℕ) (d : RxSeen) → j < length ins' → get_or (receivers_of ins) j (new_receiver 0) ≡ receiver_view (get_or ins j d)
  receiver_before j d there = receivers_at ins j (new_receiver 0) d (omega (arith, there, w.as_many.0))

  receiver_after : (j : ℕ) (d : RxSeen) → j < length ins' → get_or (receivers_of ins') j (new_receiver 0) ≡ receiver_view (get_or ins' j d)
  receiver_after j d there = receivers_at ins' j (new_receiver 0) d there

  out_rest : (k : ℕ) (d : TxSeen) → k < length outs'.links → OutRests (lane_of outs k d) (lane_of outs' k d)
  out_rest k d there = w.outs_rest k d (omega (arith, there, w.as_many.1))

  in_rest : (j : ℕ) (d : RxSeen) → j < length ins' → InRests (get_or ins j d) (get_or ins' j d)
  in_rest j d there = w.ins_rest j d (omega (arith, there, w.as_many.0))

  long_outs : length (senders_of outs') ≡ length outs'.links
  long_outs = senders_long outs'.links outs'.queues

  long_ins : length (receivers_of ins') ≡ length ins'
  long_ins = length-map ins' receiver_view

  -- a frame waits by the plain record exactly where one does
  none_held : NoneWaits after → NoneHeld outs'
  none_held none k =
      ⊎_elim
      (λ (there : k < length outs'.links).
      let d = tx_of_list outs'.links k there in
      nil_from_length (get_or outs'.queues k []) (sym (ap (λ (x : Sender). x.waiting) (sender_after k d there)) ∙ none k new_sender (omega (arith, there, long_outs))))
      (λ (past : length outs'.links ≤ k). past_nil outs'.queues k (omega (arith, past, w.outs_stand.holds.as_many)))
      (before_or_not k (length outs'.links))

  none_waits : NoneHeld outs' → NoneWaits after
  none_waits none k x less =
      let there : k < length outs'.links = omega (arith, less, long_outs) in
      ap (λ (y : Sender). y.waiting) (senders_at outs'.links outs'.queues k x (tx_of_list outs'.links k there) there) ∙ ap length (none k)

  held_some : (k : ℕ) (d : TxSeen) → k < length outs'.links → WantsCredit number (get_or (senders_of outs') k new_sender) → 0 < (get_or outs'.links k d).held
  held_some k d there wants =
      let standing = w.outs_stand.holds.stand k d there in
      ⊎_elim
      (λ (full : (0 < length (get_or outs'.queues k [])) × ((get_or outs'.links k d).held ≡ number)). omega (arith, full.1, w.outs_stand.credits k d there, standing.sender.some))
      (λ (ending : IsTrue (has_finish (get_or outs'.links k d).offered) × (0 < (get_or outs'.links k d).held)). ending.1)
      (subst (λ (x : Sender). WantsCredit number x) (sender_after k d there) wants)

  answered : (end : PipeEnd) → Waits number after end → AnsweredIn before after end
  answered (DataOut k) waits =
      let there : k < length outs'.links = omega (arith, waits.0, long_outs) in
      let d = tx_of_list outs'.links k there in
      let left : 0 < length (get_or outs'.links k d).left = subst (λ (x : Sender). 0 < length x.left) (sender_after k d there) waits.1 in
      let zero = (out_rest k d there).forth.zero left in (
        ap (λ (x : Sender). x.room) (sender_before k d there) ∙ zero.0,
        rose_by (get_or outs.links k d).forth.silent (get_or outs'.links k d).forth.silent _ _ (ap (λ (x : Sender). x.put_silent) (sender_before k d there)) (ap (λ (x : Sender). x.put_silent) (sender_after k d there)) zero.1,
      )
  answered (CreditOut k) waits =
      let there : k < length outs'.links = omega (arith, waits.0, long_outs) in
      let d = tx_of_list outs'.links k there in
      let zero = (out_rest k d there).back.zero (held_some k d there waits.1) in (
        ap (λ (x : Sender). x.coins) (sender_before k d there) ∙ zero.0,
        rose_by (get_or outs.links k d).back.silent (get_or outs'.links k d).back.silent _ _ (ap (λ (x : Sender). x.back_silent) (sender_before k d there)) (ap (λ (x : Sender). x.back_silent) (sender_after k d there)) zero.1,
      )
  answered (DataIn j) waits =
      let there : j < length ins' = omega (arith, waits.0, long_ins) in
      let d = some_of ins' j there in
      let goes_on : has_finish (get_or ins' j d).given ≡ false = subst (λ (x : Receiver). has_finish x.given ≡ false) (receiver_after j d there) waits.1 in
      let short : length (get_or ins' j d).box < 1028 = part_is_short (get_or ins' j d).box (w.empty (none_held waits.2) j d there goes_on) in
      let zero = (in_rest j d there).forth.zero (omega (arith, short)) in (
        ap (λ (x : Receiver). x.items) (receiver_before j d there) ∙ zero.0,
        rose_by (get_or ins j d).forth.silent (get_or ins' j d).forth.silent _ _ (ap (λ (x : Receiver). x.got_silent) (receiver_before j d there)) (ap (λ (x : Receiver). x.got_silent) (receiver_after j d there)) zero.1,
      )
  answered (CreditIn j) waits =
      let there : j < length ins' = omega (arith, waits.0, long_ins) in
      let d = some_of ins' j there in
      let owes : 0 < (get_or ins' j d).owed = subst (λ (x : Receiver). 0 < x.owed) (receiver_after j d there) waits.1 in
      let zero = (in_rest j d there).back.zero owes in (
        ap (λ (x : Receiver). x.slots) (receiver_before j d there) ∙ zero.0,
        rose_by (get_or ins j d).back.silent (get_or ins' j d).back.silent _ _ (ap (λ (x : Receiver). x.paid_silent) (receiver_before j d there)) (ap (λ (x : Receiver). x.paid_silent) (receiver_after j d there)) zero.1,
      )

  -- ---- on what it waits

  data_out : (k : ℕ) (d : TxSeen) → k < length outs'.links → 0 < length (get_or outs'.links k d).left → (end : PipeEnd) × Waits number after end
  data_out k d there left = (DataOut k, (omega (arith, there, long_outs), subst (λ (x : Sender). 0 < length x.left) (sym (sender_after k d there)) left))

  credit_out : (k : ℕ) (d : TxSeen) → k < length outs'.links → WantsCredit number (sender_view (length (get_or outs'.queues k [])) (get_or outs'.links k d)) → (end : PipeEnd) × Waits number after end
  credit_out k d there wants = (CreditOut k, (omega (arith, there, long_outs), subst (λ (x : Sender). WantsCredit number x) (sym (sender_after k d there)) wants))

  data_in : NoneHeld outs' → (j : ℕ) (d : RxSeen) → j < length ins' → has_finish (get_or ins' j d).given ≡ false → (end : PipeEnd) × Waits number after end
  data_in none j d there goes_on = (DataIn j, (omega (arith, there, long_ins), subst (λ (x : Receiver). has_finish x.given ≡ false) (sym (receiver_after j d there)) goes_on, none_waits none))

  credit_in : (j : ℕ) (d : RxSeen) → j < length ins' → 0 < (get_or ins' j d).owed → (end : PipeEnd) × Waits number after end
  credit_in j d there owes = (CreditIn j, (omega (arith, there, long_ins), subst (λ (x : Receiver). 0 < x.owed) (sym (receiver_after j d there)) owes))

  -- a frame waits for link k
  waits_here : (k : ℕ) → k < length outs'.links → 0 < length (get_or outs'.queues k []) → (end : PipeEnd) × Waits number after end
  waits_here k there some =
      let d = tx_of_list outs'.links k there in
      let tx = get_or outs'.links k d in
      let unready = (out_rest k d there).unready (λ none. omega (arith, some, ap length none)) in
      let within = (w.outs_stand.holds.stand k d there).sender.within in
      ⊎_elim
      (λ (empty : length tx.left ≡ 0).
      let full : tx.held ≡ number = by_full tx.held tx.credits within (λ less. unready (less, nil_from_length tx.left empty)) ∙ w.outs_stand.credits k d there in
      credit_out k d there (inl (some, full)))
      (λ (left : 0 < length tx.left). data_out k d there left)
      (none_or_some (length tx.left))
    where
      by_full : (held credits : ℕ) → held ≤ credits → ¬ (held < credits) → held ≡ credits
      by_full held credits within never = grind arith

  -- none waits, and link k out is not settled
  settles_here : NoneHeld outs' → (k : ℕ) → k < length outs'.links → ((d : TxSeen) → ¬ IsSettled (lane_of outs' k d)) → (end : PipeEnd) × Waits number after end
  settles_here none k there never =
      let d = tx_of_list outs'.links k there in
      let tx = get_or outs'.links k d in
      ⊎_elim
      (λ (empty : length tx.left ≡ 0).
      ⊎_elim
      (λ (free : tx.held ≡ 0). absurd (never d (none k, nil_from_length tx.left empty, free)))
      (λ (held : 0 < tx.held).
      ⊎_elim
      (λ (ending : has_finish tx.offered ≡ true). credit_out k d there (inr (ending, held)))
      (λ (goes_on : has_finish tx.offered ≡ false).
      ⊎_elim
      (λ (all : AllEnded ins').
      let put : IsTrue (has_finish (put_on outs' k)) = w.ended none all k there in
      let offered : put_on outs' k ≡ tx.offered = puts_at outs'.links outs'.queues k d there ∙ ap (λ (q : List Frame). tx.offered ++ q) (none k) ∙ append-nil tx.offered in
      let wrong : false ≡ true = sym goes_on ∙ ap has_finish (sym offered) ∙ put in cc)
      (λ (one : (j : ℕ) × (j < length ins') × ((e : RxSeen) → has_finish (get_or ins' j e).given ≡ false)). data_in none one.0 (some_of ins' one.0 one.1) one.1 (one.2 (some_of ins' one.0 one.1)))
      (some_open ins'))
      (cases_Bool (has_finish tx.offered)))
      (none_or_some tx.held))
      (λ (left : 0 < length tx.left). data_out k d there left)
      (none_or_some (length tx.left))

  takes_here : NoneHeld outs' → (j : ℕ) → j < length ins' → ((d : RxSeen) → ¬ HasTakenAll (receiver_view (get_or ins' j d))) → (end : PipeEnd) × Waits number after end
  takes_here none j there never =
      let d = some_of ins' j there in
      let rx = get_or ins' j d in
      ⊎_elim
      (λ (ended : has_finish rx.given ≡ true).
      ⊎_elim
      (λ (paid : rx.owed ≡ 0). absurd (never d (record { finish = ended; owed = paid })))
      (λ (owes : 0 < rx.owed). credit_in j d there owes)
      (none_or_some rx.owed))
      (λ (goes_on : has_finish rx.given ≡ false). data_in none j d there goes_on)
      (cases_Bool (has_finish rx.given))

  some_end : SomeToTake ins' ⊎ SomeToSettle outs' → (end : PipeEnd) × Waits number after end
  some_end what =
      ⊎_elim
      (λ (none : NoneHeld outs').
      ⊎_elim (λ (take : SomeToTake ins'). takes_here none take.0 take.1 take.2) (λ (settle : SomeToSettle outs'). settles_here none settle.0 settle.1 settle.2) what)
      (λ (some : (k : ℕ) × (k < length outs'.queues) × (0 < length (get_or outs'.queues k []))).
      waits_here some.0 (omega (arith, some.1, w.outs_stand.holds.as_many)) some.2)
      (some_wait outs'.queues)

  -- ---- the rows

  pub is_idle : SomeToTake ins' ⊎ SomeToSettle outs' → IsIdle number before after
  is_idle what = record {
    waits = some_end what;
    answered = answered;
    empty = λ none j less goes_on.
        let there : j < length ins' = omega (arith, less, long_ins) in
        let d = some_of ins' j there in
        subst (λ (x : Receiver). OpensNoFrame x.box) (sym (receiver_after j d there))
        (part_opens_none (get_or ins' j d).box (w.empty (none_held none) j d there (subst (λ (x : Receiver). has_finish x.given ≡ false) (receiver_after j d there) goes_on)));
  }

  pub is_done : HasTakenEach ins' → IsSettledEach outs' → b' ≡ true → IsDone after
  is_done taken settled wrote = record {
    ins = λ j x less.
        let there : j < length ins' = omega (arith, less, long_ins) in
        let d = some_of ins' j there in
        subst HasTakenAll (sym (receivers_at ins' j x d there)) (taken j d there);
    outs = λ k x less.
        let there : k < length outs'.links = omega (arith, less, long_outs) in
        let d = tx_of_list outs'.links k there in
        let here = settled k d there in
        let tx = get_or outs'.links k d in
        let offered : put_on outs' k ≡ tx.offered = puts_at outs'.links outs'.queues k d there ∙ ap (λ (q : List Frame). tx.offered ++ q) here.0 ∙ append-nil tx.offered in
        subst HasSentAll (sym (senders_at outs'.links outs'.queues k x d there))
        (record { finish = subst (λ (fs : List Frame). IsTrue (has_finish fs)) offered (w.ended none_left all_ended k there); left = here.1; held = here.2 });
    wrote_all = wrote;
  }
    where
      none_left : NoneHeld outs'
      none_left k =
          ⊎_elim (λ (there : k < length outs'.links). (settled k (tx_of_list outs'.links k there) there).0)
          (λ (past : length outs'.links ≤ k). past_nil outs'.queues k (omega (arith, past, w.outs_stand.holds.as_many))) (before_or_not k (length outs'.links))

      all_ended : AllEnded ins'
      all_ended j d there = (taken j d there).finish

  pub stands_still : r' ≡ r → s' ≡ s → v' ≡ v → b' ≡ b → StandsStill before after
  stands_still same_read same_records same_wrote same_all = record {
    read = same_read;
    records = same_records;
    wrote = same_wrote;
    wrote_all = same_all;
    in_count = long_ins ∙ w.as_many.0 ∙ sym (length-map ins receiver_view);
    out_count = long_outs ∙ w.as_many.1 ∙ sym (senders_long outs.links outs.queues);
    given = λ j less.
        let there : j < length ins' = omega (arith, less, length-map ins receiver_view, w.as_many.0) in
        let d = some_of ins' j there in
        ap (λ (x : Receiver). x.given) (receiver_after j d there) ∙ (in_rest j d there).given ∙ sym (ap (λ (x : Receiver). x.given) (receiver_before j d there));
  }

  pub pipes_stay : EndsTell ins outs.links → PipesStay before after
  pipes_stay tells = record {
    ins = λ j less.
        let there : j < length ins' = omega (arith, less, length-map ins receiver_view, w.as_many.0) in
        let d = some_of ins' j there in
        let here = (in_rest j d there).stays (tells.ins j d (omega (arith, there, w.as_many.0))) in
        record {
          got = ap (λ (x : Receiver). x.got) (receiver_after j d there) ∙ here.got ∙ sym (ap (λ (x : Receiver). x.got) (receiver_before j d there));
          paid = ap (λ (x : Receiver). x.paid) (receiver_after j d there) ∙ here.paid ∙ sym (ap (λ (x : Receiver). x.paid) (receiver_before j d there));
        };
    outs = λ k less.
        let there : k < length outs'.links = omega (arith, less, senders_long outs.links outs.queues, w.as_many.1) in
        let d = tx_of_list outs'.links k there in
        let here = (out_rest k d there).stays (tells.outs k d (omega (arith, there, w.as_many.1))) in
        record {
          put = ap (λ (x : Sender). x.put) (sender_after k d there) ∙ here.put ∙ sym (ap (λ (x : Sender). x.put) (sender_before k d there));
          back = ap (λ (x : Sender). x.back) (sender_after k d there) ∙ here.back ∙ sym (ap (λ (x : Sender). x.back) (sender_before k d there));
        };
  }

-- ---- what is true after each turn

-- over pipes that tell
pub is_orderly : (number r s v : ℕ) (b : Bool) (ins : List RxSeen) (outs : ShuffleSeen) → InsStand number ins → OutsStand number outs → InsAreQuiet ins → All (λ (l : RxSeen). FinishIsLast l.given) ins → All RxTells ins
    → IsOrderly (node_with r s v b ins outs)
is_orderly number r s v b ins outs ins_stand outs_stand quiet last tells = record {
  granted = λ j x less.
      let there : j < length ins = omega (arith, less, length-map ins receiver_view) in
      let d = some_of ins j there in
      subst (λ (y : Receiver). IsCounted y.given → IsGranted y) (sym (receivers_at ins j x d there))
      (rx_is_granted (get_or ins j d) (ins_stand.stand j d there) (tells j d there) (quiet.granted j d there));
  taken = λ j x less.
      let there : j < length ins = omega (arith, less, length-map ins receiver_view) in
      let d = some_of ins j there in
      subst (λ (y : Receiver). FinishIsLast y.given) (sym (receivers_at ins j x d there)) (last j d there);
  offered = λ k x less.
      let there : k < length outs.links = omega (arith, less, senders_long outs.links outs.queues) in
      let d = tx_of_list outs.links k there in
      subst (λ (y : Sender). FinishIsLast y.offered) (sym (senders_at outs.links outs.queues k x d there)) (outs_stand.holds.stand k d there).sender.last;
}

-- ---- the rows of the two answers

-- what was read, taken up and written is as before
pub record SameCounts (r s v r' s' v' : ℕ) (b b' : Bool) : Type 0 where
  pub read : r' ≡ r
  pub records : s' ≡ s
  pub wrote : v' ≡ v
  pub wrote_all : b' ≡ b

module _ (number : ℕ) (ins ins' : List RxSeen) (outs outs' : ShuffleSeen) (w : HasRested number ins ins' outs outs') (r s v r' s' v' : ℕ) (b b' : Bool) (same : SameCounts r s v r' s' v' b b')
    (orderly : IsOrderly (node_with r' s' v' b' ins' outs')) (few : OffersFew (node_with r' s' v' b' ins' outs')) where
  pub idle_row : SomeToTake ins' ⊎ SomeToSettle outs' → IdleRow number (node_with r s v b ins outs) (node_with r' s' v' b' ins' outs')
  idle_row what = record {
    still = stands_still number ins ins' outs outs' w r s v r' s' v' b b' same.read same.records same.wrote same.wrote_all;
    idle = is_idle number ins ins' outs outs' w r s v r' s' v' b b' what;
    orderly = orderly;
    few = few;
  }

  pub done_row : HasTakenEach ins' → IsSettledEach outs' → b' ≡ true → DoneRow (node_with r s v b ins outs) (node_with r' s' v' b' ins' outs')
  done_row taken settled wrote = record {
    still = stands_still number ins ins' outs outs' w r s v r' s' v' b b' same.read same.records same.wrote same.wrote_all;
    done = is_done number ins ins' outs outs' w r s v r' s' v' b b' taken settled wrote;
    orderly = orderly;
    few = few;
  }
