-- What one call of a pipe's end means for a link.
use Rattle.std.proofs.Common.{◌≡◌, ap₂, Option, Some, None, Result, Ok, Err, slice_index, ◌<◌, ◌≤◌, ℕ, zero, suc, ◌+◌, ◌-◌, ◌^◌, min, inl, inr, IsTrue, List, [], ◌∷◌, ◌++◌, length, take, drop, replicate, refl, sym, ap, ◌∙◌, subst, arith, append-nil, length-append}
use Rattle.std.proofs.lemmas.List.{length-take, length-drop, length-replicate, take-replicate, take-append-drop, replicate-append-replicate}
use Rattle.std.proofs.Math.Seq.{drop-cons}
use Rattle.ds_base.specs.Faults.{Rose}
use Rattle.ds_base.specs.Pipes.{PipeSeen, PipeMoves}
use Rattle.byte_rings.specs.Rings.{PipeName}
use Rattle.node_frames.specs.declared.frame.Frame.{Frame}
use Rattle.node_frames.specs.Link.{SpellsAll}
use Rattle.node_frames.proofs.Links.{bytes_come_after, frame_opens_rest}
use Rattle.credit_link.specs.Frames.{capped, IsCounted}
use Rattle.credit_link.specs.declared.link_bad.LinkBad.{LinkBad}
use Rattle.credit_link.specs.Sending.{SenderSeen, SenderStands, CreditsTaken, NoCredit}
use Rattle.credit_link.specs.Receiving.{ReceiverSeen, ReceiverStands, GivesFrame, Fills, Pays, Fails}
use Rattle.credit_link.specs.Pulling.{PullAnswers}
use Rattle.credit_link.specs.Ends.{TxSeen, tx_of, rx_of, OnPipes, InPipes}
use Rattle.credit_link.specs.Moves.{EndMoves, IsHeard}
use Rattle.credit_link.specs.Pumping.{PutsOut, TakesBack, FailsBack, TxPumps, RxPumps}

take_of_take : (n cut : ℕ) (xs : List ℕ) → n ≤ cut → take n (take cut xs) ≡ take n xs
take_of_take zero cut xs h = refl
take_of_take (suc n) zero xs h = absurd (omega arith)
take_of_take (suc n) (suc cut) [] h = refl
take_of_take (suc n) (suc cut) (x ∷ xs) h = ap (λ ys. x ∷ ys) (take_of_take n cut xs (omega arith))

rises : (before after : ℕ) → before < 2 ^ 64 → after ≡ min (before + 1) (2 ^ 64 - 1) → Rose before after
rises before after few e = grind arith

-- an end that was asked to move some bytes
pub asked_moves : (before after : PipeSeen) (front : List ℕ) (n : ℕ) (IsAsked : Type 0) → IsHeard before → PipeMoves before after front n → 0 < length front → IsAsked → EndMoves before after IsAsked n
asked_moves before after front n IsAsked heard moves some asked = record {
  told = moves.told;
  faults = moves.faults;
  sure = moves.sure;
  zero = λ _ none. (moves.none_sure none some, rises before.silent after.silent heard (moves.silent none some));
  unasked = λ never. absurd (never asked);
}

-- an end on which there was nothing to move
pub left_alone : (end : PipeSeen) (IsAsked : Type 0) → ¬ IsAsked → EndMoves end end IsAsked 0
left_alone end IsAsked never = record {
  told = refl;
  faults = refl;
  sure = omega arith;
  zero = λ asked. absurd (never asked);
  unasked = λ _. refl;
}

pub puts_out : (s after : SenderSeen) (forth forth' back : PipeSeen) (name name' back_name : PipeName) (cut n : ℕ) (piece : List ℕ) → IsHeard forth → name' ≡ name
    → after ≡ record s { left = drop n s.left } → piece ≡ take cut s.left → 0 < length piece → PipeMoves forth forth' piece n
    → PutsOut (tx_of s forth back name back_name) (tx_of after forth' back name' back_name) cut n
puts_out s after forth forth' back name name' back_name cut n piece heard named left is some moves =
    let within : n ≤ length piece = moves.within in
    let size : length piece ≡ min cut (length s.left) = ap length is ∙ length-take cut s.left in
    let P : PipeName → Type 0 = λ m. PutsOut (tx_of s forth back name back_name) (tx_of after forth' back m back_name) cut n in
    let Q : SenderSeen → Type 0 = λ a. PutsOut (tx_of s forth back name back_name) (tx_of a forth' back name back_name) cut n in
    subst P (sym named) (subst Q (sym left) (record {
      same = refl;
      within = omega arith;
      most = omega arith;
      bytes = λ told. moves.bytes told ∙ ap (λ bytes. forth.bytes ++ take n bytes) is ∙ ap (λ bytes. forth.bytes ++ bytes) (take_of_take n cut s.left (omega arith));
      moves = asked_moves forth forth' piece n ((0 < cut) × (0 < length s.left)) heard moves some (omega arith, omega arith);
    }))

-- ---- credits

still_heard : (before after : PipeSeen) (front : List ℕ) (n : ℕ) → IsHeard before → PipeMoves before after front n → IsHeard after
still_heard before after front n heard moves = grind (arith, moves.heard, moves.silent, moves.unasked)

-- the bytes that came are the front of those that were asked for
came : (most n : ℕ) (coins : List ℕ) → most ≤ length coins → n ≤ length (take most coins) → (n ≤ most) × (length (take n coins) ≡ n) × (take n (take most coins) ≡ take n coins)
came most n coins whole within =
    let few : n ≤ most = omega (arith, length-take most coins, within) in
    (few, omega (arith, length-take n coins, few, whole), take_of_take n most coins few)

pub credits_on_pipes : (s after : SenderSeen) (forth back back' : PipeSeen) (most n : ℕ) (coins : List ℕ) → SenderStands s → OnPipes s forth back → CreditsTaken s after (take n coins)
    → PipeMoves back back' (take most coins) n → most ≤ length coins → OnPipes after forth back'
credits_on_pipes s after forth back back' most n coins stands pipes taken moves whole =
    let front = came most n coins whole moves.within in
    let P : SenderSeen → Type 0 = λ a. OnPipes a forth back' in
    subst P (sym taken.same) (record {
      put = pipes.put;
      forth_heard = pipes.forth_heard;
      back_heard = still_heard back back' (take most coins) n pipes.back_heard moves;
      repaid = λ counted told none.
          let before : back.bytes ≡ replicate s.repaid 1 = pipes.repaid counted (subst IsTrue moves.told told) none in
          let more : take n coins ≡ replicate (length (take n coins)) 1 = taken.ones in
          let sum : s.held + s.repaid ≡ length s.offered = stands.counts counted in
          let exact : s.repaid + length (take n coins) ≡ capped (s.repaid + length (take n coins)) = omega (arith, sum, taken.within, counted) in
          moves.bytes (subst IsTrue moves.told told) ∙ ap₂ (λ (xs ys : List ℕ). xs ++ ys) before (front.2 ∙ more) ∙ replicate-append-replicate s.repaid (length (take n coins)) 1 ∙ ap (λ k. replicate k 1) exact;
    })

pub takes_no_credit : (s after : SenderSeen) (forth back back' : PipeSeen) (name back_name back_name' : PipeName) (most n : ℕ) (coins : List ℕ) (bad : LinkBad) → back_name' ≡ back_name
    → NoCredit s after (take n coins) bad → PipeMoves back back' (take most coins) n → most ≤ length coins
    → FailsBack (tx_of s forth back name back_name) (tx_of after forth back' name back_name') bad
takes_no_credit s after forth back back' name back_name back_name' most n coins bad named none_there moves whole =
    let front = came most n coins whole moves.within in
    let here : List ℕ = take n coins in
    let k : ℕ = none_there.taken in
    let split : here ≡ take k here ++ (slice_index here k ∷ drop (suc k) here) = sym (take-append-drop k here) ∙ ap (λ more. take k here ++ more) (drop-cons here k 0 none_there.within.0) in
    let P : PipeName → Type 0 = λ m. FailsBack (tx_of s forth back name back_name) (tx_of after forth back' name m) bad in
    let Q : SenderSeen → Type 0 = λ a. FailsBack (tx_of s forth back name back_name) (tx_of a forth back' name back_name) bad in
    subst P (sym named) (subst Q (sym none_there.same) (inr (record {
      taken = k;
      got = slice_index here k;
      rest = drop (suc k) here;
      named = none_there.named;
      wrong = none_there.wrong;
      within = none_there.within.1;
      same = refl;
      bytes = λ told. moves.bytes told ∙ ap (λ bytes. back.bytes ++ bytes) (front.2 ∙ split ∙ ap (λ xs. xs ++ (slice_index here k ∷ drop (suc k) here)) none_there.ones);
      told = moves.told;
    })))

-- ---- a pump

pub pumps : (a b c : TxSeen) (cut p q : ℕ) → PutsOut a b cut p → TakesBack b c cut q → TxPumps a c cut (p + q)
pumps a b c cut p q out back =
    let mid : TxSeen = record a { left = drop p a.left; forth = b.forth } in
    let P : TxSeen → Type 0 = λ m. TakesBack m c cut q in
    let later : TakesBack mid c cut q = subst P out.same back in
    let forth : c.forth ≡ b.forth = ap (λ (l : TxSeen). l.forth) later.same in
    record {
      put = p;
      paid = q;
      total = refl;
      same = later.same ∙ ap (λ f. record a { left = drop p a.left; held = a.held - q; repaid = capped (a.repaid + q); forth = f; back = c.back }) (sym forth);
      put_within = (out.within, out.most);
      paid_within = (later.within, later.most);
      put_bytes = λ told. ap (λ (f : PipeSeen). f.bytes) forth ∙ out.bytes told;
      paid_bytes = later.bytes;
      forth = subst (λ (f : PipeSeen). EndMoves a.forth f ((0 < cut) × (0 < length a.left)) p) (sym forth) out.moves;
      back = later.moves;
    }

-- ---- the receiving end

none_taken : (n : ℕ) → (let a : List ℕ = [] in let b : List ℕ = [] ++ take n [] in a ≡ b)
none_taken zero = refl
none_taken (suc n) = refl

take_more : (at n : ℕ) (xs : List ℕ) → take (at + n) xs ≡ take at xs ++ take n (drop at xs)
take_more zero n xs = ap (λ k. take k xs) (let e : zero + n ≡ n = omega arith in e)
take_more (suc at) n [] = let e : suc at + n ≡ suc (at + n) = omega arith in ap (λ k. take k []) e ∙ none_taken n
take_more (suc at) n (x ∷ xs) = let e : suc at + n ≡ suc (at + n) = omega arith in ap (λ k. take k (x ∷ xs)) e ∙ ap (λ ys. x ∷ ys) (take_more at n xs)

pub fills_nothing : (s : ReceiverSeen) (box : List ℕ) (forth : PipeSeen) (cut : ℕ) → box ≡ s.box → (0 < cut → length s.box < 2056 → ⊥) → Fills s (record s { box = box }) forth forth cut 0
fills_nothing s box forth cut same full = record {
  came = [];
  count = refl;
  most = omega arith;
  same = ap (λ b. record s { box = b }) (same ∙ sym (append-nil s.box));
  bytes = λ _. sym (append-nil forth.bytes);
  moves = left_alone forth ((0 < cut) × (length s.box < 2056)) (λ asked. full asked.0 asked.1);
}

pub fills : (s : ReceiverSeen) (forth forth' : PipeSeen) (bytes : List ℕ) (at most cut n : ℕ) → IsHeard forth → take at bytes ≡ s.box → length s.box ≡ at → most ≡ min cut (2056 - at) → 0 < most → at + most ≤ length bytes
    → PipeMoves forth forth' (take most (drop at bytes)) n → Fills s (record s { box = take (at + n) bytes }) forth forth' cut n
fills s forth forth' bytes at most cut n heard front at_is room some whole moves =
    let size : length (take most (drop at bytes)) ≡ most = omega (arith, length-take most (drop at bytes), length-drop at bytes, whole) in
    let few : n ≤ most = omega (arith, moves.within, size) in
    record {
      came = take n (drop at bytes);
      count = omega (arith, length-take n (drop at bytes), length-drop at bytes, few, whole);
      most = omega (arith, few, room);
      same = ap (λ b. record s { box = b }) (take_more at n bytes ∙ ap (λ b. b ++ take n (drop at bytes)) front);
      bytes = λ told. moves.bytes told ∙ ap (λ b. forth.bytes ++ b) (take_of_take n most (drop at bytes) few);
      moves = asked_moves forth forth' (take most (drop at bytes)) n ((0 < cut) × (length s.box < 2056)) heard moves (omega (arith, size, some)) (omega (arith, room, some), omega (arith, at_is, room, some));
    }

pub pays : (s after : ReceiverSeen) (back back' : PipeSeen) (piece : List ℕ) (most cut n : ℕ) → IsHeard back → after ≡ record s { owed = s.owed - n; paid = capped (s.paid + n) } → piece ≡ replicate most 1
    → 0 < most → most ≤ cut → most ≤ s.owed → PipeMoves back back' piece n → Pays s after back back' cut n
pays s after back back' piece most cut n heard same is some within owed moves =
    let size : length piece ≡ most = ap length is ∙ length-replicate most 1 in
    let few : n ≤ most = omega (arith, moves.within, size) in
    record {
      within = omega (arith, few, owed);
      most = omega (arith, few, within);
      same = same;
      bytes = λ told. moves.bytes told ∙ ap (λ b. back.bytes ++ b) (ap (take n) is ∙ take-replicate n most 1 few);
      moves = asked_moves back back' piece n ((0 < cut) × (0 < s.owed)) heard moves (omega (arith, size, some)) (omega (arith, some, within), omega (arith, some, owed));
    }

-- ---- the bytes received

pub filled_pipes : (s after : ReceiverSeen) (forth forth' back : PipeSeen) (cut n : ℕ) → InPipes s forth back → Fills s after forth forth' cut n → IsHeard forth' → InPipes after forth' back
filled_pipes s after forth forth' back cut n pipes filled heard =
    subst (λ (a : ReceiverSeen). InPipes a forth' back) (sym filled.same) (record {
      reads = λ told.
          let told_before = subst IsTrue filled.moves.told told in
          subst (λ (bytes : List ℕ). SpellsAll s.given bytes (s.box ++ filled.came)) (sym (filled.bytes told_before)) (bytes_come_after s.given forth.bytes s.box filled.came (pipes.reads told_before));
      forth_heard = heard;
      back_heard = pipes.back_heard;
      paid = pipes.paid;
    })

pub paid_pipes : (s after : ReceiverSeen) (forth back back' : PipeSeen) (cut n : ℕ) → ReceiverStands s → InPipes s forth back → Pays s after back back' cut n → IsHeard back' → InPipes after forth back'
paid_pipes s after forth back back' cut n stands pipes paid heard =
    subst (λ (a : ReceiverSeen). InPipes a forth back') (sym paid.same) (record {
      reads = pipes.reads;
      forth_heard = pipes.forth_heard;
      back_heard = heard;
      paid = λ counted told.
          let told_before = subst IsTrue paid.moves.told told in
          let exact : s.paid + n ≡ capped (s.paid + n) = omega (arith, stands.counts counted, paid.within, counted) in
          paid.bytes told_before ∙ ap (λ bytes. bytes ++ replicate n 1) (pipes.paid counted told_before) ∙ replicate-append-replicate s.paid n 1 ∙ ap (λ k. replicate k 1) exact;
    })

pub pulled_pipes : (s after : ReceiverSeen) (frame : Frame) (forth back : PipeSeen) → InPipes s forth back → GivesFrame s after frame → InPipes after forth back
pulled_pipes s after frame forth back pipes gives =
    let fewer : IsCounted (s.given ++ frame ∷ []) → IsCounted s.given = λ counted. omega (arith, counted, length-append s.given (frame ∷ [])) in
    subst (λ (a : ReceiverSeen). InPipes a forth back) (sym gives.same) (record {
      reads = λ told. frame_opens_rest s.given frame forth.bytes s.box after.box (pipes.reads told) gives.opens;
      forth_heard = pipes.forth_heard;
      back_heard = pipes.back_heard;
      paid = λ counted told. pipes.paid (fewer counted) told;
    })

pub answered_pipes : (s after : ReceiverSeen) (forth back : PipeSeen) (answer : Result (Option Frame) LinkBad) → InPipes s forth back → PullAnswers s after answer → InPipes after forth back
answered_pipes s after forth back (Ok (Some frame)) pipes gives = pulled_pipes s after frame forth back pipes gives
answered_pipes s after forth back (Ok None) pipes none_there = subst (λ (a : ReceiverSeen). InPipes a forth back) (sym none_there.1) pipes
answered_pipes s after forth back (Err bad) pipes (inl kept) = subst (λ (a : ReceiverSeen). InPipes a forth back) (sym kept.1) pipes
answered_pipes s after forth back (Err bad) pipes (inr meets) =
    subst (λ (a : ReceiverSeen). InPipes a forth back) (sym meets.1) (record { reads = pipes.reads; forth_heard = pipes.forth_heard; back_heard = pipes.back_heard; paid = pipes.paid })

pub failed_pipes : (s after : ReceiverSeen) (forth back back' : PipeSeen) (bad : LinkBad) → InPipes s forth back → Fails s after back back' bad → IsHeard back' → InPipes after forth back'
failed_pipes s after forth back back' bad pipes fails heard =
    subst (λ (a : ReceiverSeen). InPipes a forth back') (sym fails.same) (record {
      reads = pipes.reads;
      forth_heard = pipes.forth_heard;
      back_heard = heard;
      paid = λ counted told. let told_before = subst IsTrue fails.pipe.told told in fails.pipe.bytes told_before ∙ pipes.paid counted told_before;
    })

-- ---- a pump of the receiving end

pub rx_pumps : (s mid after : ReceiverSeen) (forth forth' back back' : PipeSeen) (name back_name name' back_name' : PipeName) (cut n m : ℕ) → Fills s mid forth forth' cut n → Pays mid after back back' cut m → name' ≡ name → back_name' ≡ back_name
    → RxPumps (rx_of s forth back name back_name) (rx_of after forth' back' name' back_name') cut (n + m)
rx_pumps s mid after forth forth' back back' name back_name name' back_name' cut n m filled paid same back_same =
    let later : Pays (record s { box = s.box ++ filled.came }) after back back' cut m = subst (λ (b : ReceiverSeen). Pays b after back back' cut m) filled.same paid in
    subst (λ (k : PipeName). RxPumps (rx_of s forth back name back_name) (rx_of after forth' back' k back_name') cut (n + m)) (sym same)
    (subst (λ (k : PipeName). RxPumps (rx_of s forth back name back_name) (rx_of after forth' back' name k) cut (n + m)) (sym back_same)
    (record {
      came = filled.came;
      went = m;
      total = ap (λ k. k + m) (sym filled.count);
      same = ap (λ (a : ReceiverSeen). rx_of a forth' back' name back_name) later.same;
      came_within = omega (arith, filled.count, filled.most);
      went_within = (later.within, later.most);
      came_bytes = filled.bytes;
      went_bytes = later.bytes;
      forth = subst (λ k. EndMoves forth forth' ((0 < cut) × (length s.box < 2056)) k) (sym filled.count) filled.moves;
      back = later.moves;
    }))
