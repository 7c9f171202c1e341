-- Two nodes that are done: a still round.
use Rattle.std.proofs.Common.{ℕ, zero, suc, ◌+◌, ◌*◌, ◌<◌, ◌≤◌, ◌≡◌, ◌++◌, ◌^◌, ◌/◌, Bool, true, false, List, [], ◌∷◌, length, refl, sym, subst, inr, arith, lit<, append-nil, length-append}
use Rattle.std.specs.Prelude.{slice_index}
use Rattle.std.specs.Int.{w32, byte_at, bytes_high_first, to_be_bytes}
use Rattle.std.proofs.Math.Nat.{mod-lt}
use Rattle.sha2.specs.Sha256.{sha256, digest_bytes, final_hash, initial_hash_256}
use Rattle.sha2.proofs.Facts256.{length-sha256}
use Rattle.node_frames.specs.declared.frame.Frame.TheVariants.{Finish}
use Rattle.node_frames.specs.declared.wire.Wire.{Wire}
use Rattle.node_frames.specs.Fields.{bytes_of}
use Rattle.node_frames.specs.Link.{Opens, SpellsAll, framed, wire_of}
use Rattle.node_frames.proofs.Bytes.{length-bytes_of}
use Rattle.round_law.specs.Links.{IsCounted, Sender, Receiver, ring_bytes, FinishIsLast, IsSender, IsReceiver, IsGranted, HasSentAll, HasTakenAll, AreJoined}
use Rattle.round_law.specs.Waits.{IsDone}
use Rattle.round_law.specs.Rows.{AreCounted, IsOrderly, HasSoundEnds, OffersFew, StandsStill, PipesStay, frames_beside}
use Rattle.round_law.specs.Network.{Leads}
use Rattle.round_law.specs.Needed.{pair_of, rank_of, SomeRoundIsStill}
use Rattle.round_law.proofs.Needed.{all_one, all_none}

-- ---- the digest of nothing is bytes

abbrev AreBytes : List ℕ → Type 0
AreBytes bytes = (i : ℕ) → slice_index bytes i < 256

joined_bytes : (xs ys : List ℕ) → AreBytes xs → AreBytes ys → AreBytes (xs ++ ys)
joined_bytes [] ys hx hy i = hy i
joined_bytes (x ∷ xs) ys hx hy zero = hx 0
joined_bytes (x ∷ xs) ys hx hy (suc i) = joined_bytes xs ys (λ k. hx (suc k)) hy i

high_first : (k n : ℕ) → AreBytes (bytes_high_first k n)
high_first zero n i = omega arith
high_first (suc k) n zero = byte_below k n
  where
    byte_below : (k n : ℕ) → byte_at k n < 256
    byte_below zero n = mod-lt n (omega arith)
    byte_below (suc k) n = mod-lt (n / 256 ^ suc k) (omega arith)
high_first (suc k) n (suc i) = high_first k n i

digest : (h : List ℕ) (n : ℕ) → AreBytes (digest_bytes h n)
unfolding digest_bytes
digest h zero i = omega arith
digest h (suc n) i = joined_bytes (digest_bytes h n) (to_be_bytes w32 (slice_index h n)) (digest h n) (high_first 4 (slice_index h n)) i

hash_is_bytes : (m : List ℕ) → AreBytes (sha256 m)
unfolding sha256
hash_is_bytes m = digest (final_hash initial_hash_256 m) 8

-- ---- Finish alone on a link

abbrev seal : Wire
seal = wire_of 0 [] Finish

end_bytes : List ℕ
end_bytes = framed seal

opens : Opens seal end_bytes []
unfolding end_bytes
opens = record {
  spells = record { fit = (lit< tt, (length-sha256 [], hash_is_bytes [])); same = refl };
  short =
      let count : length (bytes_of 8 0) ≡ 8 = length-bytes_of 8 0 in
      let all : length (bytes_of 8 0 ++ sha256 []) ≡ length (bytes_of 8 0) + length (sha256 []) = length-append (bytes_of 8 0) (sha256 []) in
      let hash : length (sha256 []) ≡ 32 = length-sha256 [] in
      omega arith;
  joined = sym (append-nil (framed seal));
}

spelled : SpellsAll (Finish ∷ []) end_bytes []
spelled = ([], opens, refl)

abbrev sent : Sender
sent = record { offered = Finish ∷ []; waiting = 0; put = end_bytes; left = []; held = 0; back = 1; room = ring_bytes; coins = 0; put_silent = 0; back_silent = 0 }

abbrev taken : Receiver
taken = record { got = end_bytes; given = Finish ∷ []; box = []; paid = 1; owed = 0; items = 0; slots = 1; got_silent = 0; paid_silent = 0 }

sent_sound : IsSender 1 sent
sent_sound = record { spelled = subst (λ (bytes : List ℕ). SpellsAll (Finish ∷ []) bytes []) (sym (append-nil end_bytes)) spelled; counted = refl; within = omega arith }

joined : AreJoined 1 sent taken
joined = record { some = omega arith; ring = []; through = sym (append-nil end_bytes); room = omega arith; items = refl; coins = refl; slots = refl }

leads : Leads (λ (n : Bool). Unit {0}) rank_of 1 (pair_of sent taken) false 0 true 0
leads = record { from = tt; out = omega arith; to = tt; into = omega arith; rises = omega arith; joined = joined }

outs : (n : Bool) → Unit {0} → (k : ℕ) → k < length (pair_of sent taken n).outs → (m : Bool) × (j : ℕ) × Leads (λ (n : Bool). Unit {0}) rank_of 1 (pair_of sent taken) n k m j
outs false there zero less = (true, 0, leads)
outs false there (suc k) less = absurd (omega arith)
outs true there k less = absurd (omega arith)

ins : (m : Bool) → Unit {0} → (j : ℕ) → j < length (pair_of sent taken m).ins → (n : Bool) × (k : ℕ) × Leads (λ (n : Bool). Unit {0}) rank_of 1 (pair_of sent taken) n k m j
ins true there zero less = (false, 0, leads)
ins true there (suc j) less = absurd (omega arith)
ins false there j less = absurd (omega arith)

below : (n : Bool) → Unit {0} → rank_of n < 2
below false there = omega arith
below true there = omega arith

last : FinishIsLast (Finish ∷ [])
last = (λ has. refl, tt)

orderly : (n : Bool) → IsOrderly (pair_of sent taken n)
orderly false = record {
  granted = all_none (λ (r : Receiver). IsCounted r.given → IsGranted r);
  taken = all_none (λ (r : Receiver). FinishIsLast r.given);
  offered = all_one (λ (s : Sender). FinishIsLast s.offered) sent last;
}
orderly true = record {
  granted = all_one (λ (r : Receiver). IsCounted r.given → IsGranted r) taken (λ few. refl);
  taken = all_one (λ (r : Receiver). FinishIsLast r.given) taken last;
  offered = all_none (λ (s : Sender). FinishIsLast s.offered);
}

one_within : (n : ℕ) → 1 ≤ 2 * n + frames_beside
unfolding frames_beside
one_within n = omega arith

few : (n : Bool) → OffersFew (pair_of sent taken n)
few false = all_one (λ (s : Sender). length s.offered ≤ 2 * 0 + frames_beside) sent (one_within 0)
few true = λ k d less. absurd (omega arith)

sound : (n : Bool) → HasSoundEnds 1 (pair_of sent taken n)
sound false = record { senders = all_one (λ (s : Sender). IsCounted s.offered → IsSender 1 s) sent (λ few. sent_sound); receivers = all_none IsReceiver }
sound true = record { senders = all_none (λ (s : Sender). IsCounted s.offered → IsSender 1 s); receivers = all_one IsReceiver taken spelled }

counted : (n : Bool) → AreCounted (pair_of sent taken n)
counted false = record { offered = all_one (λ (s : Sender). IsCounted s.offered) sent (lit< tt); given = all_none (λ (r : Receiver). IsCounted r.given) }
counted true = record { offered = all_none (λ (s : Sender). IsCounted s.offered); given = all_one (λ (r : Receiver). IsCounted r.given) taken (lit< tt) }

still : (n : Bool) → StandsStill (pair_of sent taken n) (pair_of sent taken n)
still n = record {
  read = refl;
  records = refl;
  wrote = refl;
  wrote_all = refl;
  in_count = refl;
  out_count = refl;
  given = λ j less. refl;
}

pipes : (n : Bool) → PipesStay (pair_of sent taken n) (pair_of sent taken n)
pipes n = record { ins = λ j less. record { got = refl; paid = refl }; outs = λ k less. record { put = refl; back = refl } }

done : (n : Bool) → IsDone (pair_of sent taken n)
done false = record { ins = all_none HasTakenAll; outs = all_one HasSentAll sent (record { finish = refl; left = refl; held = refl }); wrote_all = refl }
done true = record { ins = all_one HasTakenAll taken (record { finish = refl; owed = refl }); outs = all_none HasSentAll; wrote_all = refl }

pub some_round_is_still : SomeRoundIsStill
some_round_is_still = (
  sent,
  taken,
  record {
    network = record { top = 2; below = below; outs = outs; ins = ins };
    orderly = λ n there. orderly n;
    sound = λ n there. sound n;
    sound_after = λ n there. sound n;
    counted = λ n there. counted n;
    counted_after = λ n there. counted n;
    rests = λ n there. record { row = inr (record { still = still n; done = done n; orderly = orderly n; few = few n }); pipes = pipes n };
  },
)
