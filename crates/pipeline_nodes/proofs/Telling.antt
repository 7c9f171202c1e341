-- The pipes of a pipeline over rings tell.
use Rattle.std.proofs.Common.{ℕ, ◌+◌, ◌-◌, ◌<◌, ◌≤◌, ◌≡◌, List, length, subst, arith, ⊎_elim}
use Rattle.std.specs.Prelude.{All}
use Rattle.std.proofs.lemmas.Bool.{cases_lt}
use Rattle.std.proofs.lemmas.List.{get_or_default}
use Rattle.credit_link.specs.Ends.{TxSeen, RxSeen}
use Rattle.round_law.specs.Views.{TxTells, RxTells}
use Rattle.net_law.specs.Parsers.{parser_tells}
use Rattle.net_law.specs.Groupers.{grouper_tells}
use Rattle.net_law.specs.Processors.{processor_tells}
use Rattle.net_law.specs.Merges.{merge_tells}
use Rattle.net_law.specs.Ends.{no_tx, no_rx, tx_at, rx_at}
use Rattle.net_law.specs.Nets.{Net, NetStands, AreEnds, parser_at, grouper_at, processor_at}

all_tx : (links : List TxSeen) → ((k : ℕ) → k < length links → TxTells (tx_at links k)) → All TxTells links
all_tx links each k d less = subst TxTells (get_or_default links k no_tx d less) (each k less)

all_rx : (ins : List RxSeen) → ((j : ℕ) → j < length ins → RxTells (rx_at ins j)) → All RxTells ins
all_rx ins each j d less = subst RxTells (get_or_default ins j no_rx d less) (each j less)

tx_tells : (number : ℕ) (tx : TxSeen) (rx : RxSeen) → AreEnds number tx rx → TxTells tx
tx_tells number tx rx ends = record { forth = ends.told.0; back = ends.told.1 }

rx_tells : (number : ℕ) (tx : TxSeen) (rx : RxSeen) → AreEnds number tx rx → RxTells rx
rx_tells number tx rx ends = record { forth = ends.told.2; back = ends.told.3 }

module _ (net : Net) (now : NetStands net) where
  pub parser_tell : (p : ℕ) → p < net.shape.parsers → parser_tells (parser_at net p)
  parser_tell p hp = record { ins = λ j d less. absurd (omega (arith, less)); outs = all_tx (parser_at net p).outs.links each }
    where
      each : (k : ℕ) → k < length (parser_at net p).outs.links → TxTells (tx_at (parser_at net p).outs.links k)
      each k less =
          let outs : length (parser_at net p).outs.links ≡ net.shape.groupers + 1 = (now.parsers p hp).outs in
          ⊎_elim
          (λ (early : k < net.shape.groupers). tx_tells net.credits (tx_at (parser_at net p).outs.links k) (rx_at (grouper_at net k).ins p) (now.links.to_grouper p k hp early))
          (λ (late : net.shape.groupers ≤ k).
          let same : net.shape.groupers ≡ k = omega (arith, late, less, outs) in
          subst (λ (i : ℕ). TxTells (tx_at (parser_at net p).outs.links i)) same
          (tx_tells net.credits (tx_at (parser_at net p).outs.links net.shape.groupers) (rx_at net.merge.ins p) (now.links.to_merge p hp)))
          (cases_lt k net.shape.groupers)

  pub grouper_tell : (g : ℕ) → g < net.shape.groupers → grouper_tells (grouper_at net g)
  grouper_tell g hg = record {
    ins = all_rx (grouper_at net g).ins (λ j less.
        let hp : j < net.shape.parsers = subst (λ (n : ℕ). j < n) (now.groupers g hg).ins less in
        rx_tells net.credits (tx_at (parser_at net j).outs.links g) (rx_at (grouper_at net g).ins j) (now.links.to_grouper j g hp hg));
    outs = all_tx (grouper_at net g).outs.links (λ k less.
        let hq : k < net.shape.processors = subst (λ (n : ℕ). k < n) (now.groupers g hg).outs less in
        tx_tells net.credits (tx_at (grouper_at net g).outs.links k) (rx_at (processor_at net k).ins g) (now.links.to_processor g k hg hq));
  }

  pub processor_tell : (q : ℕ) → q < net.shape.processors → processor_tells (processor_at net q)
  processor_tell q hq = record {
    ins = all_rx (processor_at net q).ins (λ j less.
        let hg : j < net.shape.groupers = subst (λ (n : ℕ). j < n) (now.processors q hq).ins less in
        rx_tells net.credits (tx_at (grouper_at net j).outs.links q) (rx_at (processor_at net q).ins j) (now.links.to_processor j q hg hq));
    outs = all_tx (processor_at net q).outs.links (λ k less.
        let one : length (processor_at net q).outs.links ≡ 1 = (now.processors q hq).stands.one_out in
        let first : 0 ≡ k = omega (arith, one, less) in
        subst (λ (i : ℕ). TxTells (tx_at (processor_at net q).outs.links i)) first
        (tx_tells net.credits (tx_at (processor_at net q).outs.links 0) (rx_at net.merge.ins (net.shape.parsers + q)) (now.links.from_processor q hq)));
  }

  pub merge_tell : merge_tells net.merge
  merge_tell = record { ins = all_rx net.merge.ins each; outs = λ k d less. absurd (omega (arith, less)) }
    where
      each : (j : ℕ) → j < length net.merge.ins → RxTells (rx_at net.merge.ins j)
      each j less =
          let ins : length net.merge.ins ≡ net.shape.parsers + net.shape.processors = now.merge.ins in
          ⊎_elim
          (λ (early : j < net.shape.parsers). rx_tells net.credits (tx_at (parser_at net j).outs.links net.shape.groupers) (rx_at net.merge.ins j) (now.links.to_merge j early))
          (λ (late : net.shape.parsers ≤ j).
          let same : net.shape.parsers + (j - net.shape.parsers) ≡ j = omega (arith, late) in
          let hq : j - net.shape.parsers < net.shape.processors = omega (arith, late, less, ins) in
          subst (λ (i : ℕ). RxTells (rx_at net.merge.ins i)) same
          (rx_tells net.credits (tx_at (processor_at net (j - net.shape.parsers)).outs.links 0) (rx_at net.merge.ins (net.shape.parsers + (j - net.shape.parsers))) (now.links.from_processor (j - net.shape.parsers) hq)))
          (cases_lt j net.shape.parsers)
