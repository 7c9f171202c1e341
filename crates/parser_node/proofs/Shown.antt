-- A look at one link out, by which its two ends are shown its rings.
use Rattle.std.proofs.Common.{ℕ, ◌≡◌, ◌≢◌, ◌++◌, Option, List, [], length, get_or, refl, sym, ap, ap₂, ◌∙◌, subst, arith, ⊎_elim}
use Rattle.std.proofs.lemmas.List.{length-set, get_or-set_other}
use Rattle.node_frames.specs.declared.frame.Frame.{Frame}
use Rattle.credit_link.specs.Ends.{TxSeen, RxSeen}
use Rattle.credit_link.specs.declared.turn.NodeFault.{NodeFault}
use Rattle.shuffle_poll.specs.Shuffles.{ShuffleSeen, ShuffleHolds}
use Rattle.node_lanes.specs.Ends.{put_on, OutsStand, OutsAreQuiet, OutsGo}
use Rattle.node_lanes.specs.Lending.{ShowsOut}
use Rattle.node_lanes.proofs.Listed.{puts_same}
use Rattle.node_lanes.proofs.Pumped.{same_or_not}
use Rattle.net_law.specs.Ends.{no_tx}
use Rattle.net_law.specs.Steps.{TxLooked, OutsLooked}
use Rattle.net_law.proofs.Going.{outs_looked}
use Rattle.parser_steps.specs.Seen.{StepsSeen, seen_of}
use Rattle.parser_steps.specs.Holds.{ParserHolds}
use Rattle.parser_node.specs.Turning.{ChangesOuts}

tx_same : (l : TxSeen) → TxLooked l l
tx_same l = record {
  same = refl;
  forth = record { told = refl; bytes = refl; faults = refl; silent = refl; sure = omega arith };
  back = record { told = refl; bytes = refl; faults = refl; silent = refl; sure = omega arith };
}

module _ (outs outs' : ShuffleSeen) (k : ℕ) (rx rx' : RxSeen) (shows : ShowsOut outs outs' k rx rx') where
  pub as_many : length outs'.links ≡ length outs.links
  as_many = ap length (shows.links no_tx) ∙ length-set outs.links k (get_or outs'.links k no_tx)

  pub each_looked : (i : ℕ) (d : TxSeen) → TxLooked (get_or outs.links i d) (get_or outs'.links i d)
  each_looked i d =
      ⊎_elim
      (λ (e : i ≡ k).
      let s = shows.shows d in
      subst (λ (j : ℕ). TxLooked (get_or outs.links j d) (get_or outs'.links j d)) (sym e) (record { same = s.sending; forth = s.tx_looks.0; back = s.tx_looks.1 }))
      (λ (differs : i ≢ k).
      let same : get_or outs'.links i d ≡ get_or outs.links i d = ap (λ (l : List TxSeen). get_or l i d) (shows.links d) ∙ get_or-set_other outs.links k i (get_or outs'.links k d) d differs in
      subst (λ (l : TxSeen). TxLooked (get_or outs.links i d) l) (sym same) (tx_same (get_or outs.links i d)))
      (same_or_not i k)

  pub outs_look : OutsLooked outs outs'
  outs_look = record { as_many = as_many; queues = shows.queues; each = λ i. each_looked i no_tx }

  pub shown_goes : OutsGo outs outs'
  shown_goes = outs_looked outs outs' outs_look

  pub shown_put : (i : ℕ) → put_on outs' i ≡ put_on outs i
  shown_put =
      puts_same outs outs' as_many
      (λ i d. ap₂ (λ (x y : List Frame). x ++ y) (ap (λ (l : TxSeen). l.offered) (each_looked i d).same) (ap (λ (qs : List (List Frame)). get_or qs i []) shows.queues))

  pub shown_stand : ShuffleHolds outs'.links outs'.queues → (number : ℕ) → OutsStand number outs → OutsStand number outs'
  shown_stand holds number stand = record {
    holds = holds;
    credits = λ i d less. ap (λ (l : TxSeen). l.credits) (each_looked i d).same ∙ stand.credits i d (omega (arith, less, as_many));
  }

  pub shown_quiet : OutsAreQuiet outs → OutsAreQuiet outs'
  shown_quiet quiet i d less = ap (λ (l : TxSeen). l.fault) (each_looked i d).same ∙ quiet i d (omega (arith, less, as_many))

  pub changes_outs : (x : StepsSeen) (fault : Option NodeFault) → ParserHolds x outs' fault → ChangesOuts (seen_of x outs fault) (seen_of x outs' fault)
  changes_outs x fault holds = record {
    same = ap (λ (n : ℕ). record (seen_of x outs' fault) { credits = n }) (ap (λ (l : TxSeen). l.credits) (each_looked 0 no_tx).same);
    stands = holds.stands;
  }
