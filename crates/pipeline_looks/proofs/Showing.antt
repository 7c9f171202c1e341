-- One link more is looked at.
use Rattle.std.proofs.Common.{ℕ, ◌+◌, ◌<◌, ◌≤◌, ◌≡◌, ◌≢◌, List, length, get_or, set, refl, sym, ap, ◌∙◌, subst, arith, ⊎_elim, ◌⊎◌, inl, inr}
use Rattle.std.proofs.lemmas.List.{get_or-set_same, get_or-set_other}
use Rattle.credit_link.specs.Ends.{RxSeen}
use Rattle.shuffle_poll.specs.Shuffles.{ShuffleSeen}
use Rattle.node_lanes.specs.Lending.{ShowsOut}
use Rattle.node_lanes.specs.Pulling.{ChangesLink}
use Rattle.pipeline_looks.specs.Links.{ShowsLinks}

pub before_or_not : (k n : ℕ) → (k < n) ⊎ (n ≤ k)
before_or_not k n = grind arith

-- an item that was set
pub at_set : {X : Type 0} (xs : List X) (i : ℕ) (x d : X) → i < length xs → get_or (set xs i x) i d ≡ x
at_set xs i x d there = get_or-set_same xs i x d there

-- an item beside the one that was changed
pub beside_set : {X : Type 0} (xs ys : List X) (i k : ℕ) (d : X) → ys ≡ set xs i (get_or ys i d) → k ≢ i → get_or ys k d ≡ get_or xs k d
beside_set xs ys i k d changed differs = ap (λ l. get_or l k d) changed ∙ get_or-set_other xs i k (get_or ys i d) d differs

module _ (S : Type 0) (outs : S → ShuffleSeen) (Lends : S → S → Type 0) (first link : ℕ) where
  pub shows_none : (senders : List S) (ins : List RxSeen) → ShowsLinks S outs Lends first link 0 senders senders ins ins
  shows_none senders ins = record {
    as_many = (refl, refl);
    lends = λ i s less. absurd (omega (arith, less));
    shown = λ i s d less. absurd (omega (arith, less));
    senders_behind = λ i s past. refl;
    other_ins = λ j d beside. refl;
  }

  module _ (i : ℕ) (senders now : List S) (ins ins_now : List RxSeen) (far : ShowsLinks S outs Lends first link i senders now ins ins_now) where
    -- what is true of the next sender and its link in at the start is true of them now
    pub as_at_start : (P : ShuffleSeen → RxSeen → Type 0) (s : S) (d : RxSeen) → P (outs (get_or senders i s)) (get_or ins (first + i) d) → P (outs (get_or now i s)) (get_or ins_now (first + i) d)
    as_at_start P s d h =
        subst (λ (r : RxSeen). P (outs (get_or now i s)) r) (sym (far.other_ins (first + i) d (inr (omega arith))))
        (subst (λ (x : S). P (outs x) (get_or ins (first + i) d)) (sym (far.senders_behind i s (omega arith))) h)

    module _ (after : List S) (ins_after : List RxSeen) (long : length after ≡ length now) (changed : (s : S) → after ≡ set now i (get_or after i s))
        (changes : ChangesLink ins_now ins_after (first + i)) (lends : (s : S) → Lends (get_or now i s) (get_or after i s))
        (shown : (s : S) (d : RxSeen) → ShowsOut (outs (get_or now i s)) (outs (get_or after i s)) link (get_or ins_now (first + i) d) (get_or ins_after (first + i) d)) where
      sender_beside : (k : ℕ) (s : S) → k ≢ i → get_or after k s ≡ get_or now k s
      sender_beside k s differs = beside_set now after i k s (changed s) differs

      in_beside : (j : ℕ) (d : RxSeen) → j ≢ first + i → get_or ins_after j d ≡ get_or ins_now j d
      in_beside j d differs = beside_set ins_now ins_after (first + i) j d (changes.set d) differs

      last_lends : (s : S) → Lends (get_or senders i s) (get_or after i s)
      last_lends s = subst (λ (x : S). Lends x (get_or after i s)) (far.senders_behind i s (omega arith)) (lends s)

      last_shown : (s : S) (d : RxSeen) → ShowsOut (outs (get_or senders i s)) (outs (get_or after i s)) link (get_or ins (first + i) d) (get_or ins_after (first + i) d)
      last_shown s d =
          subst (λ (r : RxSeen). ShowsOut (outs (get_or senders i s)) (outs (get_or after i s)) link r (get_or ins_after (first + i) d)) (far.other_ins (first + i) d (inr (omega arith)))
          (subst (λ (x : S). ShowsOut (outs x) (outs (get_or after i s)) link (get_or ins_now (first + i) d) (get_or ins_after (first + i) d)) (far.senders_behind i s (omega arith)) (shown s d))

      pub shows_more : ShowsLinks S outs Lends first link (i + 1) senders after ins ins_after
      shows_more = record {
        as_many = (long ∙ far.as_many.0, changes.long ∙ far.as_many.1);
        lends = λ k s less.
            ⊎_elim
            (λ (below : k < i). subst (λ (x : S). Lends (get_or senders k s) x) (sym (sender_beside k s (λ e. omega (arith, below, e)))) (far.lends k s below))
            (λ (past : i ≤ k). let here : k ≡ i = omega (arith, past, less) in subst (λ (n : ℕ). Lends (get_or senders n s) (get_or after n s)) (sym here) (last_lends s))
            (before_or_not k i);
        shown = λ k s d less.
            ⊎_elim
            (λ (below : k < i).
            subst (λ (r : RxSeen). ShowsOut (outs (get_or senders k s)) (outs (get_or after k s)) link (get_or ins (first + k) d) r) (sym (in_beside (first + k) d (λ e. omega (arith, below, e))))
            (subst (λ (x : S). ShowsOut (outs (get_or senders k s)) (outs x) link (get_or ins (first + k) d) (get_or ins_now (first + k) d)) (sym (sender_beside k s (λ e. omega (arith, below, e)))) (far.shown k s d below)))
            (λ (past : i ≤ k).
            let here : k ≡ i = omega (arith, past, less) in
            subst (λ (n : ℕ). ShowsOut (outs (get_or senders n s)) (outs (get_or after n s)) link (get_or ins (first + n) d) (get_or ins_after (first + n) d)) (sym here) (last_shown s d))
            (before_or_not k i);
        senders_behind = λ k s past. sender_beside k s (λ e. omega (arith, past, e)) ∙ far.senders_behind k s (omega (arith, past));
        other_ins = λ j d beside.
            ⊎_elim
            (λ (below : j < first). in_beside j d (λ e. omega (arith, below, e)) ∙ far.other_ins j d (inl below))
            (λ (past : first + (i + 1) ≤ j). in_beside j d (λ e. omega (arith, past, e)) ∙ far.other_ins j d (inr (omega (arith, past))))
            beside;
      }
