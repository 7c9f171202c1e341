-- A frame was taken off one link in, and granted.
use Rattle.std.proofs.Common.{ℕ, ◌+◌, ◌-◌, ◌<◌, ◌≤◌, ◌≡◌, ◌≢◌, None, List, [], ◌∷◌, length, get_or, sym, ap, ◌∙◌, subst, arith, length-append, ⊎_elim}
use Rattle.std.specs.List.{sum_by}
use Rattle.std.proofs.lemmas.List.{length-map}
use Rattle.node_frames.specs.declared.frame.Frame.{Frame}
use Rattle.credit_link.specs.Frames.{capped}
use Rattle.credit_link.specs.Ends.{RxSeen}
use Rattle.round_law.specs.Links.{new_receiver}
use Rattle.round_law.specs.Rows.{taken_by}
use Rattle.round_law.specs.Views.{receiver_view}
use Rattle.round_law.proofs.Sums.{sum_rises}
use Rattle.node_lanes.specs.Ends.{receivers_of, InsAreQuiet}
use Rattle.node_lanes.specs.Passes.{InsAreCalm}
use Rattle.node_lanes.specs.Pulling.{ChangesLink, TakesFrame}
use Rattle.node_lanes.proofs.Pumped.{same_or_not, other, receivers_at, some_of}

module _ (before after : List RxSeen) (j : ℕ) (there : j < length before) (changes : ChangesLink before after j) where
  others : (i : ℕ) (d : RxSeen) → i ≢ j → get_or after i d ≡ get_or before i d
  others i d differs = other before after j i d (changes.set d) differs

  -- a frame more was taken: the count of what came and went rises, over pipes that tell nothing too
  pub takes_more : (frame : Frame) → ((d : RxSeen) → TakesFrame (get_or before j d) (get_or after j d) frame) → sum_by taken_by (receivers_of before) < sum_by taken_by (receivers_of after)
  takes_more frame takes =
      sum_rises taken_by (new_receiver 0) (receivers_of before) (receivers_of after) (length-map after receiver_view ∙ changes.long ∙ sym (length-map before receiver_view))
      (λ i less.
      let within : i < length before = omega (arith, less, length-map before receiver_view) in
      ⊎_elim (λ (e : i ≡ j). subst (λ k. taken_by (get_or (receivers_of before) k (new_receiver 0)) ≤ taken_by (get_or (receivers_of after) k (new_receiver 0))) (sym e) (omega (arith, rises)))
      (λ (differs : i ≢ j).
      let d = some_of before i within in
      omega (arith, ap taken_by (receivers_at before i (new_receiver 0) d within), ap taken_by (receivers_at after i (new_receiver 0) d (omega (arith, within, changes.long))), ap (λ (r : RxSeen). taken_by (receiver_view r)) (others i d differs)))
      (same_or_not i j))
      j (omega (arith, there, length-map before receiver_view)) rises
    where
      d0 : RxSeen
      d0 = some_of before j there

      counts : taken_by (receiver_view (get_or after j d0)) ≡ taken_by (receiver_view (get_or before j d0)) + 1
      counts =
          let t = takes d0 in
          omega (arith, ap (λ (r : RxSeen). length r.forth.bytes) t.rest, ap (λ (r : RxSeen). length r.back.bytes) t.rest, ap length t.given, length-append (get_or before j d0).given (frame ∷ []))

      rises : taken_by (get_or (receivers_of before) j (new_receiver 0)) < taken_by (get_or (receivers_of after) j (new_receiver 0))
      rises = omega (arith, counts, ap taken_by (receivers_at before j (new_receiver 0) d0 there), ap taken_by (receivers_at after j (new_receiver 0) d0 (omega (arith, there, changes.long))))

-- no pipe was used
pub changed_calm : (before after : List RxSeen) (j : ℕ) → ChangesLink before after j → ((d : RxSeen) → ((get_or after j d).forth ≡ (get_or before j d).forth) × ((get_or after j d).back ≡ (get_or before j d).back)) → InsAreCalm before after
changed_calm before after j changes same i d there =
    ⊎_elim
    (λ (e : i ≡ j).
    subst (λ k. ((get_or after k d).forth.faults ≡ (get_or before k d).forth.faults) × ((get_or after k d).back.faults ≡ (get_or before k d).back.faults)) (sym e) (ap (λ p. p.faults) (same d).0, ap (λ p. p.faults) (same d).1))
    (λ (differs : i ≢ j).
    let one = other before after j i d (changes.set d) differs in
    (ap (λ (r : RxSeen). r.forth.faults) one, ap (λ (r : RxSeen). r.back.faults) one))
    (same_or_not i j)

-- what was taken was granted: all is quiet again
pub grants_quiet : (before mid after : List RxSeen) (j : ℕ) (frame : Frame) → j < length before → InsAreQuiet before → ChangesLink before mid j → ((d : RxSeen) → TakesFrame (get_or before j d) (get_or mid j d) frame)
    → ChangesLink mid after j → ((d : RxSeen) → get_or after j d ≡ record (get_or mid j d) { owed = capped ((get_or mid j d).owed + 1); ungranted = (get_or mid j d).ungranted - 1 }) → InsAreQuiet after
grants_quiet before mid after j frame there quiet first takes second grants = record {
  quiet = λ i d less.
      let within : i < length before = omega (arith, less, second.long, first.long) in
      ⊎_elim
      (λ (e : i ≡ j). subst (λ k. (get_or after k d).fault ≡ None) (sym e) (ap (λ (r : RxSeen). r.fault) (grants d) ∙ ap (λ (r : RxSeen). r.fault) (takes d).rest ∙ quiet.quiet j d there))
      (λ (differs : i ≢ j). ap (λ (r : RxSeen). r.fault) (other mid after j i d (second.set d) differs ∙ other before mid j i d (first.set d) differs) ∙ quiet.quiet i d within)
      (same_or_not i j);
  granted = λ i d less.
      let within : i < length before = omega (arith, less, second.long, first.long) in
      ⊎_elim
      (λ (e : i ≡ j).
      subst (λ k. (get_or after k d).ungranted ≡ 0) (sym e)
      (ap (λ (r : RxSeen). r.ungranted) (grants d) ∙ ap (λ n. n - 1) ((takes d).ungranted ∙ ap (λ n. capped (n + 1)) (quiet.granted j d there))))
      (λ (differs : i ≢ j). ap (λ (r : RxSeen). r.ungranted) (other mid after j i d (second.set d) differs ∙ other before mid j i d (first.set d) differs) ∙ quiet.granted i d within)
      (same_or_not i j);
}
