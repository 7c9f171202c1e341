-- Looks at the links into one node after another are a look at all links.
use Rattle.std.proofs.Common.{ℕ, ◌+◌, ◌<◌, ◌≡◌, ◌≢◌, List, refl, sym, ap, ◌∙◌, subst, arith}
use Rattle.credit_link.specs.Ends.{TxSeen, RxSeen}
use Rattle.run_law.specs.Shapes.{Shape}
use Rattle.net_law.specs.Parsers.{ParserSeen}
use Rattle.net_law.specs.Groupers.{GrouperSeen}
use Rattle.net_law.specs.Processors.{ProcessorSeen}
use Rattle.net_law.specs.Ends.{tx_at, rx_at}
use Rattle.net_law.specs.Nets.{Net, EachPair, parser_at, grouper_at, processor_at}
use Rattle.net_law.specs.Steps.{AreLooked}
use Rattle.net_law.proofs.Turned.{at_or_other}
use Rattle.run_rounds.specs.Looked.{NodesLooked}
use Rattle.pipeline_nodes.specs.Looks.{StandsApart, GrouperIsLookedAt, ProcessorIsLookedAt, MergeIsLookedAt, GroupersAreLookedAt, ProcessorsAreLookedAt}
use Rattle.pipeline_nodes.proofs.Looked.{nodes_unseen, nodes_on}

-- a link whose ends are as they were
looked_as : (n n' : ℕ) (tx tx' : TxSeen) (rx rx' : RxSeen) → n' ≡ n → tx' ≡ tx → rx' ≡ rx → AreLooked n tx rx → AreLooked n' tx' rx'
looked_as n n' tx tx' rx rx' number sender receiver looked =
    subst (λ (k : ℕ). AreLooked k tx' rx') (sym number) (subst (λ (t : TxSeen). AreLooked n t rx') (sym sender) (subst (λ (r : RxSeen). AreLooked n tx r) (sym receiver) looked))

-- ---- the groupers

pub no_groupers : (net : Net) → StandsApart net → GroupersAreLookedAt 0 net net
no_groupers net now = record { looks = nodes_unseen net now; looked = λ p g hp less. absurd (omega (arith, less)) }

pub one_grouper : (g : ℕ) (start now after : Net) → GroupersAreLookedAt g start now → GrouperIsLookedAt g now after → GroupersAreLookedAt (g + 1) start after
one_grouper g start now after far one = record {
  looks = nodes_on start now after far.looks one.looks;
  looked = λ p i hp less.
      let there : p < now.shape.parsers = subst (λ (s : Shape). p < s.parsers) (sym far.looks.alike.same.1) hp in
      at_or_other (λ (k : ℕ). k < g + 1 → AreLooked start.credits (tx_at (parser_at after p).outs.links k) (rx_at (grouper_at after k).ins p)) g i
      (λ last. subst (λ (n : ℕ). AreLooked n (tx_at (parser_at after p).outs.links g) (rx_at (grouper_at after g).ins p)) far.looks.alike.same.2 (one.looked p there))
      (λ other before.
      looked_as start.credits start.credits (tx_at (parser_at now p).outs.links i) (tx_at (parser_at after p).outs.links i) (rx_at (grouper_at now i).ins p) (rx_at (grouper_at after i).ins p) refl
      (one.beside p there i other) (ap (λ (s : GrouperSeen). rx_at s.ins p) (one.others i other)) (far.looked p i hp (earlier i other before)))
      less;
}
  where
    earlier : (i : ℕ) → i ≢ g → i < g + 1 → i < g
    earlier i other less = grind (arith, other, less)

-- ---- the query processors

pub no_processors : (net : Net) → StandsApart net → ProcessorsAreLookedAt 0 net net
no_processors net now = record { looks = nodes_unseen net now; looked = λ g q hg less. absurd (omega (arith, less)); ins_stay = λ g hg. refl; parsers = λ p. refl }

pub one_processor : (q : ℕ) (start now after : Net) → ProcessorsAreLookedAt q start now → ProcessorIsLookedAt q now after → ProcessorsAreLookedAt (q + 1) start after
one_processor q start now after far one = record {
  looks = nodes_on start now after far.looks one.looks;
  looked = λ g i hg less.
      let there : g < now.shape.groupers = subst (λ (s : Shape). g < s.groupers) (sym far.looks.alike.same.1) hg in
      at_or_other (λ (k : ℕ). k < q + 1 → AreLooked start.credits (tx_at (grouper_at after g).outs.links k) (rx_at (processor_at after k).ins g)) q i
      (λ last. subst (λ (n : ℕ). AreLooked n (tx_at (grouper_at after g).outs.links q) (rx_at (processor_at after q).ins g)) far.looks.alike.same.2 (one.looked g there))
      (λ other before.
      looked_as start.credits start.credits (tx_at (grouper_at now g).outs.links i) (tx_at (grouper_at after g).outs.links i) (rx_at (processor_at now i).ins g) (rx_at (processor_at after i).ins g) refl
      (one.beside g there i other) (ap (λ (s : ProcessorSeen). rx_at s.ins g) (one.others i other)) (far.looked g i hg (earlier i other before)))
      less;
  ins_stay = λ g hg. one.ins_stay g (subst (λ (s : Shape). g < s.groupers) (sym far.looks.alike.same.1) hg) ∙ far.ins_stay g hg;
  parsers = λ p. one.parsers p ∙ far.parsers p;
}
  where
    earlier : (i : ℕ) → i ≢ q → i < q + 1 → i < q
    earlier i other less = grind (arith, other, less)

-- ---- all nodes

module _ (a b c d : Net) (first : GroupersAreLookedAt a.shape.groupers a b) (next : ProcessorsAreLookedAt b.shape.processors b c) (last : MergeIsLookedAt c d) where
  pub all_looks : NodesLooked a d
  all_looks = nodes_on a b d first.looks (nodes_on b c d next.looks last.looks)

  to_b : b.shape ≡ a.shape
  to_b = first.looks.alike.same.1

  to_c : c.shape ≡ b.shape
  to_c = next.looks.alike.same.1

  to_d : d.shape ≡ c.shape
  to_d = last.looks.alike.same.1

  c_credits : d.credits ≡ c.credits
  c_credits = last.looks.alike.same.2

  b_credits : d.credits ≡ b.credits
  b_credits = c_credits ∙ next.looks.alike.same.2

  a_credits : d.credits ≡ a.credits
  a_credits = b_credits ∙ first.looks.alike.same.2

  pub all_looked : EachPair (AreLooked d.credits) d
  all_looked = record {
    to_grouper = λ p g hp hg.
        let pc : p < c.shape.parsers = subst (λ (s : Shape). p < s.parsers) to_d hp in
        let pa : p < a.shape.parsers = subst (λ (s : Shape). p < s.parsers) (to_c ∙ to_b) pc in
        let gc : g < c.shape.groupers = subst (λ (s : Shape). g < s.groupers) to_d hg in
        let gb : g < b.shape.groupers = subst (λ (s : Shape). g < s.groupers) to_c gc in
        let ga : g < a.shape.groupers = subst (λ (s : Shape). g < s.groupers) to_b gb in
        looked_as a.credits d.credits (tx_at (parser_at b p).outs.links g) (tx_at (parser_at d p).outs.links g) (rx_at (grouper_at b g).ins p) (rx_at (grouper_at d g).ins p) a_credits
        (last.beside p pc g (λ e. omega (arith, gc, e)) ∙ ap (λ (s : ParserSeen). tx_at s.outs.links g) (next.parsers p))
        (ap (λ (s : GrouperSeen). rx_at s.ins p) (last.groupers g) ∙ ap (λ (l : List RxSeen). rx_at l p) (next.ins_stay g gb))
        (first.looked p g pa ga);
    to_merge = λ p hp.
        let pc : p < c.shape.parsers = subst (λ (s : Shape). p < s.parsers) to_d hp in
        looked_as c.credits d.credits (tx_at (parser_at d p).outs.links c.shape.groupers) (tx_at (parser_at d p).outs.links d.shape.groupers) (rx_at d.merge.ins p) (rx_at d.merge.ins p) c_credits
        (ap (λ (s : Shape). tx_at (parser_at d p).outs.links s.groupers) to_d) refl (last.counts_looked p pc);
    to_processor = λ g q hg hq.
        let gb : g < b.shape.groupers = subst (λ (s : Shape). g < s.groupers) (to_d ∙ to_c) hg in
        let qc : q < c.shape.processors = subst (λ (s : Shape). q < s.processors) to_d hq in
        let qb : q < b.shape.processors = subst (λ (s : Shape). q < s.processors) to_c qc in
        looked_as b.credits d.credits (tx_at (grouper_at c g).outs.links q) (tx_at (grouper_at d g).outs.links q) (rx_at (processor_at c q).ins g) (rx_at (processor_at d q).ins g) b_credits
        (ap (λ (s : GrouperSeen). tx_at s.outs.links q) (last.groupers g)) (ap (λ (l : List RxSeen). rx_at l g) (last.ins_stay q qc)) (next.looked g q gb qb);
    from_processor = λ q hq.
        let qc : q < c.shape.processors = subst (λ (s : Shape). q < s.processors) to_d hq in
        looked_as c.credits d.credits (tx_at (processor_at d q).outs.links 0) (tx_at (processor_at d q).outs.links 0) (rx_at d.merge.ins (c.shape.parsers + q)) (rx_at d.merge.ins (d.shape.parsers + q)) c_credits
        refl (ap (λ (s : Shape). rx_at d.merge.ins (s.parsers + q)) to_d) (last.answers_looked q qc);
  }
