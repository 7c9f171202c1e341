-- The nodes of a pipeline that stands are linked, and on the links of nodes that are done a frame at least was sent.
use Rattle.std.proofs.Common.{ℕ, List, ◌≡◌, ◌<◌, ◌≤◌, ◌+◌, All, length, sym, ap, ◌∙◌, arith}
use Rattle.std.specs.Prelude.{IsTrue}
use Rattle.std.proofs.lemmas.Nat.{mul-le}
use Rattle.credit_link.specs.Ends.{TxSeen, RxSeen}
use Rattle.credit_link.specs.Frames.{has_finish}
use Rattle.credit_link.specs.declared.row.LinkRow.{LinkRow}
use Rattle.round_law.specs.Waits.{IsDone}
use Rattle.round_law.specs.Pipeline.{EachNode}
use Rattle.net_law.specs.Nets.{Net, NetStands, parser_at, grouper_at, processor_at}
use Rattle.net_law.specs.Rounds.{view}
use Rattle.net_law.proofs.Pairs.{few_parsers, few_groupers}
use Rattle.pipeline_law.specs.Rows.{rows_of}
use Rattle.pipeline_law.proofs.Agreeing.{has_some, some_capped, parser_sent, grouper_sent, processor_sent}
use Rattle.pipeline_law.proofs.Numbered.{numbered, of_pairs, parser_outs, grouper_ins, grouper_outs, processor_ins, processor_outs}
use Rattle.link_rows.specs.Reading.{AreLinked}

-- ---- nodes that are linked, each kind as many as the shape says

module _ (net : Net) (parser_count : length net.parsers ≡ net.shape.parsers) (grouper_count : length net.groupers ≡ net.shape.groupers) (processor_count : length net.processors ≡ net.shape.processors) (linked : AreLinked net) where
  pub some_sent : EachNode IsDone (view net) → All (λ (row : LinkRow). 1 ≤ row.sent) (rows_of net)
  some_sent done =
      of_pairs net parser_count grouper_count processor_count (λ (tx : TxSeen) (rx : RxSeen). IsTrue (has_finish tx.offered)) (λ (row : LinkRow). 1 ≤ row.sent)
      (λ tx rx from to finish. some_capped (length tx.offered) (has_some tx.offered finish))
      (record {
        to_grouper = λ p g hp hg. parser_sent net parser_count grouper_count processor_count done p g hp (omega (arith, parser_long p hp, hg));
        to_merge = λ p hp. parser_sent net parser_count grouper_count processor_count done p net.shape.groupers hp (omega (arith, parser_long p hp));
        to_processor = λ g q hg hq. grouper_sent net parser_count grouper_count processor_count done g q hg (omega (arith, grouper_long g hg, hq));
        from_processor = λ q hq. processor_sent net parser_count grouper_count processor_count done q 0 hq (omega (arith, processor_long q hq));
      })
    where
      parser_long : (p : ℕ) → p < net.shape.parsers → length (parser_at net p).outs.links ≡ net.shape.groupers + 1
      parser_long p less =
          ap (λ (l : List TxSeen). length l) (sym (parser_outs net parser_count grouper_count processor_count p less)) ∙ linked.parser_outs p (omega (arith, less, parser_count)) ∙ ap (λ n. n + 1) grouper_count

      grouper_long : (g : ℕ) → g < net.shape.groupers → length (grouper_at net g).outs.links ≡ net.shape.processors
      grouper_long g less =
          ap (λ (l : List TxSeen). length l) (sym (grouper_outs net parser_count grouper_count processor_count g less)) ∙ linked.grouper_outs g (omega (arith, less, grouper_count)) ∙ processor_count

      processor_long : (q : ℕ) → q < net.shape.processors → length (processor_at net q).outs.links ≡ 1
      processor_long q less =
          ap (λ (l : List TxSeen). length l) (sym (processor_outs net parser_count grouper_count processor_count q less)) ∙ linked.processor_outs q (omega (arith, less, processor_count))

  pub few_rows : length (rows_of net) ≤ 544
  few_rows =
      omega (
        arith,
        (numbered net parser_count grouper_count processor_count).count,
        parser_count,
        grouper_count,
        processor_count,
        linked.few,
        mul-le net.shape.parsers net.shape.groupers 16 16 (omega (arith, parser_count, linked.few.0)) (omega (arith, grouper_count, linked.few.1)),
        mul-le net.shape.groupers net.shape.processors 16 16 (omega (arith, grouper_count, linked.few.1)) (omega (arith, processor_count, linked.few.2)),
      )

-- ---- a pipeline that stands

module _ (net : Net) (now : NetStands net) where
  few_processors : net.shape.processors ≤ 16
  few_processors = omega (arith, now.merge.stands.processors.1, now.merge.ins, now.merge.parsers)

  pub net_linked : AreLinked net
  net_linked = record {
    few = (omega (arith, now.parser_count, few_parsers net now), omega (arith, now.grouper_count, few_groupers net now), omega (arith, now.processor_count, few_processors));
    parser_outs = λ p less.
        let there : p < net.shape.parsers = omega (arith, less, now.parser_count) in
        ap (λ (l : List TxSeen). length l) (parser_outs net now.parser_count now.grouper_count now.processor_count p there) ∙ (now.parsers p there).outs ∙ ap (λ n. n + 1) (sym now.grouper_count);
    grouper_ins = λ g less.
        let there : g < net.shape.groupers = omega (arith, less, now.grouper_count) in
        ap (λ (l : List RxSeen). length l) (grouper_ins net now.parser_count now.grouper_count now.processor_count g there) ∙ (now.groupers g there).ins ∙ sym now.parser_count;
    grouper_outs = λ g less.
        let there : g < net.shape.groupers = omega (arith, less, now.grouper_count) in
        ap (λ (l : List TxSeen). length l) (grouper_outs net now.parser_count now.grouper_count now.processor_count g there) ∙ (now.groupers g there).outs ∙ sym now.processor_count;
    processor_ins = λ q less.
        let there : q < net.shape.processors = omega (arith, less, now.processor_count) in
        ap (λ (l : List RxSeen). length l) (processor_ins net now.parser_count now.grouper_count now.processor_count q there) ∙ (now.processors q there).ins ∙ sym now.grouper_count;
    processor_outs = λ q less.
        let there : q < net.shape.processors = omega (arith, less, now.processor_count) in
        ap (λ (l : List TxSeen). length l) (processor_outs net now.parser_count now.grouper_count now.processor_count q there) ∙ (now.processors q there).stands.one_out;
    merge_ins = omega (arith, now.merge.ins, now.parser_count, now.processor_count);
  }
