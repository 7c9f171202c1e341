-- Frames are put: the end stays the last on each link.
use Rattle.std.proofs.Common.{◌≡◌, ◌≢◌, ◌<◌, ◌≤◌, ℕ, ◌⊎◌, ⊎_elim, false, List, [], ◌∷◌, ◌++◌, length, length-append, slice_get, Some, ap₂, get_or, set, sym, ap, ◌∙◌, subst, arith, append_assoc}
use Rattle.std.proofs.lemmas.List.{get_or-set_other, get_or-set_same, get_or_default, length-set}
use Rattle.std.proofs.lemmas.Option.{get_or_from_slice_get}
use Rattle.node_frames.specs.declared.frame.Frame.{Frame}
use Rattle.credit_link.specs.Frames.{has_finish, FinishIsLast}
use Rattle.credit_link.specs.Ends.{TxSeen, TxStands}
use Rattle.credit_link.proofs.Listed.{finish_stays_last}
use Rattle.shuffle_poll.specs.Lanes.{put_on}
use Rattle.shuffle_poll.specs.Shuffles.{lane_at, ShuffleHolds}
use Rattle.shuffle_poll.proofs.Sofar.{other_link, changed_stand}

pub before_or_not : (k n : ℕ) → (k < n) ⊎ (n ≤ k)
before_or_not k n = grind arith

-- one frame more on a lane
one_more : (offered queue more : List Frame) (frame : Frame) → has_finish (offered ++ queue) ≡ false → more ≡ queue ++ frame ∷ [] → FinishIsLast (offered ++ more)
one_more offered queue more frame going on =
    subst (λ (fs : List Frame). FinishIsLast fs) (append_assoc offered queue (frame ∷ []) ∙ ap (λ q. offered ++ q) (sym on)) (finish_stays_last (offered ++ queue) frame going)

pub put_all_holds : (links : List TxSeen) (queues queues' : List (List Frame)) (count : ℕ) (frame : Frame) → ShuffleHolds links queues → length queues' ≡ length queues
    → ((k : ℕ) → k < count → get_or queues' k [] ≡ get_or queues k [] ++ frame ∷ []) → ((k : ℕ) → count ≤ k → get_or queues' k [] ≡ get_or queues k [])
    → ((k : ℕ) → k < count → length (get_or queues k []) < 2) → ((k : ℕ) (d : TxSeen) → k < count → has_finish (put_on (lane_at links queues k d)) ≡ false) → ShuffleHolds links queues'
put_all_holds links queues queues' count frame holds long put others room going = record {
  as_many = long ∙ holds.as_many;
  few = holds.few;
  stand = holds.stand;
  two = λ k.
      ⊎_elim (λ (before : k < count). omega (arith, ap length (put k before), length-append (get_or queues k []) (frame ∷ []), room k before))
      (λ (behind : count ≤ k). omega (arith, ap length (others k behind), holds.two k)) (before_or_not k count);
  last = λ k d there.
      ⊎_elim (λ (before : k < count). one_more (get_or links k d).offered (get_or queues k []) (get_or queues' k []) frame (going k d before) (put k before))
      (λ (behind : count ≤ k). subst (λ (q : List Frame). FinishIsLast ((get_or links k d).offered ++ q)) (sym (others k behind)) (holds.last k d there))
      (before_or_not k count);
}

same_or_not : (k i : ℕ) → (k ≡ i) ⊎ (k ≢ i)
same_or_not k i = grind arith

pub put_holds : (links : List TxSeen) (queues queues' : List (List Frame)) (i : ℕ) (frame : Frame) → ShuffleHolds links queues → i < length links
    → queues' ≡ set queues i (get_or queues i [] ++ frame ∷ []) → length (get_or queues i []) < 2 → ((d : TxSeen) → has_finish (put_on (lane_at links queues i d)) ≡ false) → ShuffleHolds links queues'
put_holds links queues queues' i frame holds there put room going = record {
  as_many = ap (λ (l : List (List Frame)). length l) put ∙ length-set queues i (get_or queues i [] ++ frame ∷ []) ∙ holds.as_many;
  few = holds.few;
  stand = holds.stand;
  two = λ k.
      ⊎_elim (λ (e : k ≡ i).
      let here : get_or queues' i [] ≡ get_or queues i [] ++ frame ∷ [] = ap (λ l. get_or l i []) put ∙ get_or-set_same queues i (get_or queues i [] ++ frame ∷ []) [] (omega (arith, there, holds.as_many)) in
      subst (λ j. length (get_or queues' j []) ≤ 2) (sym e) (omega (arith, ap length here, length-append (get_or queues i []) (frame ∷ []), room)))
      (λ (other : k ≢ i).
      let same : get_or queues' k [] ≡ get_or queues k [] = ap (λ l. get_or l k []) put ∙ get_or-set_other queues i k (get_or queues i [] ++ frame ∷ []) [] other in
      omega (arith, ap length same, holds.two k)) (same_or_not k i);
  last = λ k d inside.
      ⊎_elim (λ (e : k ≡ i).
      let here : get_or queues' i [] ≡ get_or queues i [] ++ frame ∷ [] = ap (λ l. get_or l i []) put ∙ get_or-set_same queues i (get_or queues i [] ++ frame ∷ []) [] (omega (arith, there, holds.as_many)) in
      subst (λ j. FinishIsLast (put_on (lane_at links queues' j d))) (sym e) (one_more (get_or links i d).offered (get_or queues i []) (get_or queues' i []) frame (going d) here))
      (λ (other : k ≢ i).
      let same : get_or queues' k [] ≡ get_or queues k [] = ap (λ l. get_or l k []) put ∙ get_or-set_other queues i k (get_or queues i [] ++ frame ∷ []) [] other in
      subst (λ (q : List Frame). FinishIsLast ((get_or links k d).offered ++ q)) (sym same) (holds.last k d inside))
      (same_or_not k i);
}

-- a lane by its link and its queue
pub same_lane : (links : List TxSeen) (queues : List (List Frame)) (i : ℕ) (d tx : TxSeen) (queue : List Frame) → slice_get links i ≡ Some tx → i < length queues → queue ≡ get_or queues i queue
    → lane_at links queues i d ≡ record { tx = tx; queue = queue }
same_lane links queues i d tx queue link there waits =
    ap₂ (λ (t : TxSeen) (q : List Frame). record { tx = t; queue = q }) (get_or_from_slice_get links i tx d link) (get_or_default queues i [] queue there ∙ sym waits)

-- a link was shown its rings
pub shown_holds : (links links' : List TxSeen) (queues : List (List Frame)) (i : ℕ) → ShuffleHolds links queues → length links' ≡ length links → ((d : TxSeen) → links' ≡ set links i (get_or links' i d))
    → ((d : TxSeen) → TxStands (get_or links' i d)) → ((d : TxSeen) → (get_or links' i d).offered ≡ (get_or links i d).offered) → ShuffleHolds links' queues
shown_holds links links' queues i holds long changed stands offered = record {
  as_many = holds.as_many ∙ sym long;
  few = omega (arith, long, holds.few);
  stand = λ k d there. changed_stand links links' i holds.stand changed stands k d (omega (arith, there, long));
  two = holds.two;
  last = λ k d there.
      let same : (get_or links' k d).offered ≡ (get_or links k d).offered =
      ⊎_elim (λ (e : k ≡ i). subst (λ j. (get_or links' j d).offered ≡ (get_or links j d).offered) (sym e) (offered d))
      (λ (other : k ≢ i). ap (λ (t : TxSeen). t.offered) (other_link links links' i k d (changed d) other)) (same_or_not k i) in
      subst (λ (fs : List Frame). FinishIsLast (fs ++ get_or queues k [])) (sym same) (holds.last k d (omega (arith, there, long)));
}
