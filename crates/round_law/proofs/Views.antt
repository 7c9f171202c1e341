-- What the ends of links show, as the plain records of a run.
use Rattle.std.proofs.Common.{inl, inr, ◌^◌, ◌-◌, ◌⊎◌, ◌<◌, ℕ, ◌+◌, ◌≤◌, ◌≡◌, ◌++◌, List, [], length, take, refl, sym, ap, subst, ◌∙◌, ⊎_elim, arith, append-nil, append_assoc, length-append}
use Rattle.std.proofs.lemmas.List.{nil_from_length, length-replicate}
use Rattle.ds_base.specs.Pipes.{PipeSeen}
use Rattle.node_frames.specs.Fields.{bytes_of}
use Rattle.node_frames.specs.Table.{payload_of}
use Rattle.node_frames.specs.Link.{SpellsAll}
use Rattle.node_frames.proofs.Bytes.{number_back, length-bytes_of}
use Rattle.credit_link.specs.Ends.{TxSeen, RxSeen}
use Rattle.credit_link.specs.Ahead.{length_word}
use Rattle.round_law.specs.Links.{ring_bytes}
use Rattle.round_law.specs.Views.{TxIsSender, RxIsReceiver, RxIsGranted, PartOpensNone, PartIsShort, AnsweredAgain, TxPumpRests, RxPumpRests, TxLooks, RxLooks, LookedIsJoined}

pub tx_is_sender : (waiting : ℕ) (l : TxSeen) → TxIsSender waiting l
tx_is_sender waiting l stands tells quiet counted =
    let counts : l.held + l.repaid ≡ length l.offered = stands.sender.counts counted in
    let back : length l.back.bytes ≡ l.repaid = ap length (stands.pipes.repaid counted tells.back quiet) ∙ length-replicate l.repaid 1 in
    record {
      spelled = subst (λ (bytes : List ℕ). SpellsAll l.offered bytes []) (sym (stands.pipes.put counted tells.forth)) (stands.sender.spelled counted);
      counted = omega arith;
      within = stands.sender.within;
    }

pub rx_is_receiver : (l : RxSeen) → RxIsReceiver l
rx_is_receiver l stands tells = stands.pipes.reads tells.forth

pub rx_is_granted : (l : RxSeen) → RxIsGranted l
rx_is_granted l stands tells none counted =
    let counts : l.paid + l.owed + l.ungranted ≡ length l.given = stands.receiver.counts counted in
    let back : length l.back.bytes ≡ l.paid = ap length (stands.pipes.paid counted tells.back) ∙ length-replicate l.paid 1 in
    omega arith

pub part_opens_none : (box : List ℕ) → PartOpensNone box
unfolding length_word
part_opens_none box part wire after opens =
    let n : ℕ = length (payload_of wire) in
    let small : length (payload_of wire) < 256 ^ 4 = omega (arith, opens.short) in
    let whole : box ≡ bytes_of 4 (length (payload_of wire)) ++ (payload_of wire ++ after) = opens.joined ∙ append_assoc (bytes_of 4 (length (payload_of wire))) (payload_of wire) after in
    let word : length_word box ≡ length (payload_of wire) = ap length_word whole ∙ number_back 4 (length (payload_of wire)) (payload_of wire ++ after) small in
    let all : length box ≡ length (bytes_of 4 (length (payload_of wire))) + length (payload_of wire ++ after) = ap length whole ∙ length-append (bytes_of 4 (length (payload_of wire))) (payload_of wire ++ after) in
    let four : length (bytes_of 4 (length (payload_of wire))) ≡ 4 = length-bytes_of 4 (length (payload_of wire)) in
    let rest : length (payload_of wire ++ after) ≡ length (payload_of wire) + length after = length-append (payload_of wire) after in
    ⊎_elim
    (λ (short : length box < 4). omega arith)
    (λ (cut : (1 ≤ length_word box) × (length_word box ≤ 1024) × (length box < 4 + length_word box)). let less : length box < 4 + length_word box = cut.2 in omega arith)
    part

pub tx_pump_rests : (waiting cut : ℕ) (before after : TxSeen) → TxPumpRests waiting cut before after
tx_pump_rests waiting cut before after some pumps =
    let total : 0 ≡ pumps.put + pumps.paid = pumps.total in
    let no_put : pumps.put ≡ 0 = omega arith in
    let no_paid : pumps.paid ≡ 0 = omega arith in
    record {
      stays = λ tells. record {
        put = pumps.put_bytes tells.forth ∙ ap (λ (n : ℕ). before.forth.bytes ++ take n before.left) no_put ∙ append-nil before.forth.bytes;
        back =
            ap length (pumps.paid_bytes tells.back) ∙ length-append before.back.bytes _ ∙ ap (λ (n : ℕ). length before.back.bytes + n) (length-replicate pumps.paid 1 ∙ no_paid)
            ∙ (omega arith);
      };
      forth = λ left. pumps.forth.zero (some, left) no_put;
      back = λ held. pumps.back.zero (some, held) no_paid;
    }

pub rx_pump_rests : (cut : ℕ) (before after : RxSeen) → RxPumpRests cut before after
rx_pump_rests cut before after some pumps =
    let total : 0 ≡ length pumps.came + pumps.went = pumps.total in
    let no_came : length pumps.came ≡ 0 = omega arith in
    let no_went : pumps.went ≡ 0 = omega arith in
    record {
      stays = λ tells. record {
        got = pumps.came_bytes tells.forth ∙ ap (λ (came : List ℕ). before.forth.bytes ++ came) (nil_from_length pumps.came no_came) ∙ append-nil before.forth.bytes;
        paid =
            ap length (pumps.went_bytes tells.back) ∙ length-append before.back.bytes _ ∙ ap (λ (n : ℕ). length before.back.bytes + n) (length-replicate pumps.went 1 ∙ no_went)
            ∙ (omega arith);
      };
      forth = λ room. pumps.forth.zero (some, room) no_came;
      back = λ owed. pumps.back.zero (some, owed) no_went;
    }

pub tx_looks : (waiting : ℕ) (before after : TxSeen) → TxLooks waiting before after
tx_looks waiting before after same forth back = record {
  offered = ap (λ (l : TxSeen). l.offered) same;
  waiting = refl;
  put = forth.bytes;
  left = ap (λ (l : TxSeen). l.left) same;
  held = ap (λ (l : TxSeen). l.held) same;
  back = ap length back.bytes;
  put_silent = forth.silent;
  back_silent = back.silent;
}

pub rx_looks : (before after : RxSeen) → RxLooks before after
rx_looks before after same forth back = record {
  got = forth.bytes;
  given = ap (λ (l : RxSeen). l.given) same;
  box = ap (λ (l : RxSeen). l.box) same;
  paid = ap length back.bytes;
  owed = ap (λ (l : RxSeen). l.owed) same;
  got_silent = forth.silent;
  paid_silent = back.silent;
}

pub looked_is_joined : (waiting : ℕ) (tx : TxSeen) (rx : RxSeen) → LookedIsJoined waiting tx rx
looked_is_joined waiting tx rx stands ring credits =
    let room : tx.forth.sure + length ring.between ≡ ring_bytes = ring.room in
    let paid : length rx.back.bytes ≡ length tx.back.bytes + length credits.between = ap length credits.sent ∙ length-append tx.back.bytes credits.between in
    let coins : tx.back.sure ≡ length credits.between = credits.items in
    let slots : rx.back.sure + length credits.between ≡ tx.credits = credits.room in
    record {
      some = stands.sender.some;
      ring = ring.between;
      through = ring.sent;
      room = omega arith;
      items = ring.items;
      coins = omega arith;
      slots = omega arith;
    }

pub part_is_short : (box : List ℕ) → PartIsShort box
part_is_short box part =
    ⊎_elim
    (λ (short : length box < 4). omega arith)
    (λ (cut : (1 ≤ length_word box) × (length_word box ≤ 1024) × (length box < 4 + length_word box)).
    let less : length box < 4 + length_word box = cut.2 in
    let most : length_word box ≤ 1024 = cut.1 in
    omega arith)
    part

-- the end of the type of a count
rose_again : (a b c end : ℕ) → c ≤ end → (b ≡ a) ⊎ ((a < b) ⊎ ((a ≡ end) × (b ≡ a))) → (b < c) ⊎ ((b ≡ end) × (c ≡ b)) → (a < c) ⊎ ((a ≡ end) × (c ≡ a))
rose_again a b c end within first second =
    ⊎_elim
    (λ (up : b < c).
    ⊎_elim
    (λ (same : b ≡ a). inl (omega arith))
    (λ (rose : (a < b) ⊎ ((a ≡ end) × (b ≡ a))).
    ⊎_elim (λ (more : a < b). inl (omega arith)) (λ (stands : (a ≡ end) × (b ≡ a)). let at : a ≡ end = stands.0 in let as_before : b ≡ a = stands.1 in absurd (omega arith)) rose)
    first)
    (λ (stands : (b ≡ end) × (c ≡ b)).
    let at : b ≡ end = stands.0 in
    let as_before : c ≡ b = stands.1 in
    ⊎_elim
    (λ (same : b ≡ a). inr (omega arith, omega arith))
    (λ (rose : (a < b) ⊎ ((a ≡ end) × (b ≡ a))).
    ⊎_elim (λ (more : a < b). inl (omega arith)) (λ (stood : (a ≡ end) × (b ≡ a)). let was : b ≡ a = stood.1 in inr (omega arith, omega arith)) rose)
    first)
    second

pub answered_again : (start mid after : PipeSeen) → AnsweredAgain start mid after
answered_again start mid after sure silent heard zero =
    let none : mid.sure ≡ 0 = zero.0 in
    (omega arith, rose_again start.silent mid.silent after.silent (2 ^ 64 - 1) (omega arith) silent zero.1)
