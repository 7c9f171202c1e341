-- Frames that are put behind those of a link.
use Rattle.std.proofs.Common.{ℕ, inl, inr, zero, suc, Bool, true, false, List, [], ◌∷◌, ◌++◌, ◌≡◌, ◌≢◌, ◌<◌, ◌≤◌, ◌+◌, Option, Some, None, refl, sym, ap, subst, ◌∙◌, arith, length, get_or, append_assoc, append-nil, ⊎_elim, ◌⊎◌}
use Rattle.std.specs.Prelude.{◌||◌, slice_set, slice_index_or, ◌==◌}
use Rattle.std.proofs.lemmas.Bool.{eq-eqb}
use Rattle.std.proofs.lemmas.List.{get_or-set_same, get_or-set_other, length-set}
use Rattle.credit_link.specs.Ends.{TxSeen}
use Rattle.credit_link.specs.Frames.{has_finish, is_finish}
use Rattle.ds_base.specs.declared.summary.Summary.{Summary}
use Rattle.node_frames.specs.declared.frame.Frame.{Frame}
use Rattle.node_frames.specs.declared.frame.Frame.TheVariants.{Item}
use Rattle.shuffle_poll.specs.Lanes.{put_on as lane_put}
use Rattle.shuffle_poll.specs.Shuffles.{ShuffleSeen, ShuffleHolds, lane_of}
use Rattle.node_lanes.proofs.Listed.{puts_past, before_or_not}
use Rattle.node_lanes.specs.Ends.{puts_with, put_on}
use Rattle.ds_base.specs.Keys.{shard_of}
use Rattle.parser_captures.specs.Puts.{IsEmpty, IsUnfinished, frames_for, frames_by}
use Rattle.parser_captures.proofs.Keeping.{same_or_not, differ_eqb}

more_puts : (links : List TxSeen) (queues queues' : List (List Frame)) (k : ℕ) (fs : List Frame) → k < length links → length queues ≡ length links
    → length queues' ≡ length links → get_or queues' k [] ≡ get_or queues k [] ++ fs → get_or (puts_with links queues') k [] ≡ get_or (puts_with links queues) k [] ++ fs
more_puts [] queues queues' k fs less long long' e = absurd (omega arith)
more_puts (l ∷ links) [] queues' k fs less long long' e = absurd (omega (arith, long))
more_puts (l ∷ links) (q ∷ queues) [] k fs less long long' e = absurd (omega (arith, long'))
more_puts (l ∷ links) (q ∷ queues) (r ∷ rest) zero fs less long long' e = ap (λ (z : List Frame). l.offered ++ z) e ∙ sym (append_assoc l.offered q fs)
more_puts (l ∷ links) (q ∷ queues) (r ∷ rest) (suc k) fs less long long' e = more_puts links queues rest k fs (omega arith) (omega (arith, long)) (omega (arith, long')) e

-- what waits for a link grew by these frames
pub more_put : (old new : ShuffleSeen) (k : ℕ) (fs : List Frame) → new.links ≡ old.links → length old.queues ≡ length old.links → length new.queues ≡ length new.links
    → k < length old.links → slice_index_or new.queues k [] ≡ slice_index_or old.queues k [] ++ fs → put_on new k ≡ put_on old k ++ fs
more_put old new k fs links long long' less e =
    ap (λ (ls : List TxSeen). get_or (puts_with ls new.queues) k []) links
    ∙ more_puts old.links old.queues new.queues k fs less long (long' ∙ ap length links) e

-- what waits for it is as it was
pub same_put : (old new : ShuffleSeen) (k : ℕ) → new.links ≡ old.links → length old.queues ≡ length old.links → length new.queues ≡ length new.links
    → slice_index_or new.queues k [] ≡ slice_index_or old.queues k [] → put_on new k ≡ put_on old k
same_put old new k links long long' e =
    ⊎_elim
    (λ (less : k < length old.links). more_put old new k [] links long long' less (e ∙ sym (append-nil (slice_index_or old.queues k []))) ∙ append-nil (put_on old k))
    (λ (past : length old.links ≤ k).
    puts_past new.links new.queues k (omega (arith, past, ap length links)) ∙ sym (puts_past old.links old.queues k past))
    (before_or_not k (length old.links))

by_or : (a b c : Bool) → (a || b) ≡ false → (b ≡ false → c ≡ false) → (a || c) ≡ false
by_or true b c h k = h
by_or false b c h k = k h

-- no end among them, and a frame that is none
pub unfinished_more : (xs : List Frame) (f : Frame) → has_finish xs ≡ false → is_finish f ≡ false → has_finish (xs ++ f ∷ []) ≡ false
unfinished_more [] f h e = rw e refl
unfinished_more (x ∷ xs) f h e = by_or (is_finish x) (has_finish xs) (has_finish (xs ++ f ∷ [])) h (λ k. unfinished_more xs f k e)

-- the end was put on no link, and on each no more than a frame that is none
pub still_unfinished : (old new : ShuffleSeen) (f : Frame) → new.links ≡ old.links → is_finish f ≡ false → IsUnfinished old
    → ((k : ℕ) → (slice_index_or new.queues k [] ≡ slice_index_or old.queues k []) ⊎ (slice_index_or new.queues k [] ≡ slice_index_or old.queues k [] ++ f ∷ [])) → IsUnfinished new
still_unfinished old new f links none h each k d less =
    let offered : List Frame = (slice_index_or old.links k d).offered in
    let at : (slice_index_or new.links k d).offered ≡ offered = ap (λ (ls : List TxSeen). (slice_index_or ls k d).offered) links in
    let was : has_finish (offered ++ slice_index_or old.queues k []) ≡ false = h k d (omega (arith, less, ap length links)) in
    ap (λ (xs : List Frame). has_finish (xs ++ slice_index_or new.queues k [])) at
    ∙ ⊎_elim
    (λ (e : slice_index_or new.queues k [] ≡ slice_index_or old.queues k []). ap (λ (xs : List Frame). has_finish (offered ++ xs)) e ∙ was)
    (λ (e : slice_index_or new.queues k [] ≡ slice_index_or old.queues k [] ++ f ∷ []).
    ap (λ (xs : List Frame). has_finish (offered ++ xs)) e
    ∙ ap has_finish (sym (append_assoc offered (slice_index_or old.queues k []) (f ∷ [])))
    ∙ unfinished_more (offered ++ slice_index_or old.queues k []) f was none)
    (each k)

-- ---- the Item of one summary

module _ (old new : ShuffleSeen) (n g : ℕ) (s : Summary) (found : Option Summary) (is : found ≡ Some s) (shard : g ≡ shard_of s.key n) (among : g < n)
    (count : length old.links ≡ n + 1) (links : new.links ≡ old.links) (holds : ShuffleHolds old.links old.queues) (holds' : ShuffleHolds new.links new.queues)
    (empty : IsEmpty old) (put : new.queues ≡ slice_set old.queues g (slice_index_or old.queues g [] ++ Item s ∷ [])) where
  here : slice_index_or new.queues g [] ≡ slice_index_or old.queues g [] ++ Item s ∷ []
  here =
      ap (λ (qs : List (List Frame)). slice_index_or qs g []) put
      ∙ get_or-set_same old.queues g (slice_index_or old.queues g [] ++ Item s ∷ []) [] (omega (arith, among, count, holds.as_many))

  there : (k : ℕ) → k ≢ g → slice_index_or new.queues k [] ≡ slice_index_or old.queues k []
  there k differ =
      ap (λ (qs : List (List Frame)). slice_index_or qs k []) put
      ∙ get_or-set_other old.queues g k (slice_index_or old.queues g [] ++ Item s ∷ []) [] differ

  frames_here : frames_for n g found ≡ Item s ∷ []
  frames_here = ap (frames_for n g) is ∙ ap (λ (b : Bool). frames_by b s) (eq-eqb (shard_of s.key n) g (sym shard))

  frames_there : (k : ℕ) → k ≢ g → frames_for n k found ≡ []
  frames_there k differ = ap (frames_for n k) is ∙ ap (λ (b : Bool). frames_by b s) (differ_eqb (shard_of s.key n) k (λ e. differ (sym e ∙ sym shard)))

  pub found_put : (k : ℕ) → put_on new k ≡ put_on old k ++ frames_for n k found
  found_put k =
      ⊎_elim
      (λ (e : k ≡ g).
      subst (λ (j : ℕ). put_on new j ≡ put_on old j ++ frames_for n j found) (sym e)
      (more_put old new g (Item s ∷ []) links holds.as_many holds'.as_many (omega (arith, among, count)) here
      ∙ ap (λ (fs : List Frame). put_on old g ++ fs) (sym frames_here)))
      (λ (differ : k ≢ g).
      same_put old new k links holds.as_many holds'.as_many (there k differ)
      ∙ sym (append-nil (put_on old k))
      ∙ ap (λ (fs : List Frame). put_on old k ++ fs) (sym (frames_there k differ)))
      (same_or_not k g)

  pub found_few : (k : ℕ) → length (slice_index_or new.queues k []) ≤ 1
  found_few k =
      ⊎_elim
      (λ (e : k ≡ g).
      subst (λ (j : ℕ). length (slice_index_or new.queues j []) ≤ 1) (sym e)
      (omega (arith, ap length (here ∙ ap (λ (fs : List Frame). fs ++ Item s ∷ []) (empty g)))))
      (λ (differ : k ≢ g). omega (arith, ap length (there k differ ∙ empty k)))
      (same_or_not k g)

  pub found_unfinished : IsUnfinished old → IsUnfinished new
  found_unfinished h = still_unfinished old new (Item s) links refl h (λ k.
      ⊎_elim
      (λ (e : k ≡ g). inr (subst (λ (j : ℕ). slice_index_or new.queues j [] ≡ slice_index_or old.queues j [] ++ Item s ∷ []) (sym e) here))
      (λ (differ : k ≢ g). inl (there k differ))
      (same_or_not k g))
