-- The links of a pipeline: both ends stand, and their frames are counted and lawful.
use Rattle.std.proofs.Common.{ℕ, List, ◌≡◌, ◌<◌, ◌≤◌, ◌+◌, length, refl, sym, subst, arith}
use Rattle.std.proofs.Math.Nat.{le_trans}
use Rattle.node_frames.specs.declared.frame.Frame.{Frame}
use Rattle.credit_link.specs.Ends.{TxSeen, RxSeen}
use Rattle.shuffle_poll.specs.Shuffles.{ShuffleSeen}
use Rattle.round_law.specs.Measure.{parser_frames, grouper_frames}
use Rattle.run_law.specs.Links.{AreLawful, ItemRule, CountsRule, GroupRule, AnswerRule}
use Rattle.run_law.specs.Shapes.{IsFront}
use Rattle.run_law.proofs.Standing.{lawful_front}
use Rattle.node_lanes.specs.Ends.{given_on, put_on}
use Rattle.net_law.specs.Ends.{sent_on, no_tx, no_rx, tx_at, rx_at}
use Rattle.net_law.specs.Nets.{Net, NetStands, parser_at, grouper_at, processor_at}
use Rattle.net_law.specs.Pairs.{ArePair, EachStands}
use Rattle.net_law.proofs.Counting.{parser_offers, parser_counted, grouper_offers, grouper_counted, processor_counted, front_length}
use Rattle.net_law.proofs.Ends.{given_is, sent_is, sent_is_put}
use Rattle.net_law.proofs.Moments.{parser_keeps, grouper_keeps, processor_keeps}

-- ---- lawful frames of one link

pub sent_lawful : (Own : List Frame → Frame → Type 0) (outs : ShuffleSeen) (k : ℕ) → AreLawful Own (put_on outs k) → AreLawful Own (tx_at outs.links k).offered
sent_lawful Own outs k lawful = subst (AreLawful Own) (sent_is outs k) (lawful_front Own (sent_on outs k) (put_on outs k) (sent_is_put outs k) lawful)

taken_lawful : (Own : List Frame → Frame → Type 0) (tx : TxSeen) (ins : List RxSeen) (j : ℕ) → IsFront (rx_at ins j).given tx.offered → AreLawful Own tx.offered → AreLawful Own (given_on ins j)
taken_lawful Own tx ins j front lawful = subst (AreLawful Own) (sym (given_is ins j)) (lawful_front Own (rx_at ins j).given tx.offered front lawful)

module _ (net : Net) (now : NetStands net) where
  -- ---- lawful frames of all links

  pub items_sent : (p g : ℕ) → p < net.shape.parsers → g < net.shape.groupers → AreLawful (ItemRule net.job net.shape p g) (tx_at (parser_at net p).outs.links g).offered
  items_sent p g hp hg = sent_lawful (ItemRule net.job net.shape p g) (parser_at net p).outs g ((parser_keeps net p (parser_at net p) (now.parsers p hp)).lawful g hg)

  pub items_taken : (p g : ℕ) → p < net.shape.parsers → g < net.shape.groupers → AreLawful (ItemRule net.job net.shape p g) (given_on (grouper_at net g).ins p)
  items_taken p g hp hg =
      taken_lawful (ItemRule net.job net.shape p g) (tx_at (parser_at net p).outs.links g) (grouper_at net g).ins p (now.links.to_grouper p g hp hg).front (items_sent p g hp hg)

  pub counts_sent : (p : ℕ) → p < net.shape.parsers → AreLawful (CountsRule net.job net.shape p) (tx_at (parser_at net p).outs.links net.shape.groupers).offered
  counts_sent p hp = sent_lawful (CountsRule net.job net.shape p) (parser_at net p).outs net.shape.groupers (parser_keeps net p (parser_at net p) (now.parsers p hp)).lawful_counts

  pub counts_taken : (p : ℕ) → p < net.shape.parsers → AreLawful (CountsRule net.job net.shape p) (given_on net.merge.ins p)
  counts_taken p hp =
      taken_lawful (CountsRule net.job net.shape p) (tx_at (parser_at net p).outs.links net.shape.groupers) net.merge.ins p (now.links.to_merge p hp).front (counts_sent p hp)

  pub groups_sent : (g q : ℕ) → g < net.shape.groupers → q < net.shape.processors → AreLawful (GroupRule net.job) (tx_at (grouper_at net g).outs.links q).offered
  groups_sent g q hg hq =
      sent_lawful (GroupRule net.job) (grouper_at net g).outs q ((grouper_keeps net g (grouper_at net g) (now.groupers g hg) (λ p hp. items_taken p g hp hg)).lawful q hq)

  pub groups_taken : (g q : ℕ) → g < net.shape.groupers → q < net.shape.processors → AreLawful (GroupRule net.job) (given_on (processor_at net q).ins g)
  groups_taken g q hg hq =
      taken_lawful (GroupRule net.job) (tx_at (grouper_at net g).outs.links q) (processor_at net q).ins g (now.links.to_processor g q hg hq).front (groups_sent g q hg hq)

  pub answers_sent : (q : ℕ) → q < net.shape.processors → AreLawful (AnswerRule net.job) (tx_at (processor_at net q).outs.links 0).offered
  answers_sent q hq =
      sent_lawful (AnswerRule net.job) (processor_at net q).outs 0 (processor_keeps net (processor_at net q) (now.processors q hq) (λ g hg. groups_taken g q hg hq)).lawful

  pub answers_taken : (q : ℕ) → q < net.shape.processors → AreLawful (AnswerRule net.job) (given_on net.merge.ins (net.shape.parsers + q))
  answers_taken q hq =
      taken_lawful (AnswerRule net.job) (tx_at (processor_at net q).outs.links 0) net.merge.ins (net.shape.parsers + q) (now.links.from_processor q hq).front (answers_sent q hq)

  -- ---- the limits

  pub few_captures : length net.job.captures ≤ 64
  few_captures =
      let first = now.parsers 0 now.shape_is.parsers in
      subst (λ job. length job.captures ≤ 64) first.job first.stands.job_is.captures.1

  pub few_parsers : net.shape.parsers ≤ 16
  few_parsers = let first = now.parsers 0 now.shape_is.parsers in subst (λ (n : ℕ). n ≤ 16) first.parsers first.stands.place.1

  pub few_groupers : net.shape.groupers ≤ 16
  few_groupers = let first = now.groupers 0 now.shape_is.groupers in subst (λ (n : ℕ). n ≤ 16) first.groupers first.stands.place.1

  -- ---- the places of links

  pub parser_out : (p k : ℕ) → p < net.shape.parsers → k < net.shape.groupers + 1 → k < length (parser_at net p).outs.links
  parser_out p k hp less = subst (λ (n : ℕ). k < n) (sym (now.parsers p hp).outs) less

  pub grouper_in : (g p : ℕ) → g < net.shape.groupers → p < net.shape.parsers → p < length (grouper_at net g).ins
  grouper_in g p hg hp = subst (λ (n : ℕ). p < n) (sym (now.groupers g hg).ins) hp

  pub grouper_out : (g q : ℕ) → g < net.shape.groupers → q < net.shape.processors → q < length (grouper_at net g).outs.links
  grouper_out g q hg hq = subst (λ (n : ℕ). q < n) (sym (now.groupers g hg).outs) hq

  pub processor_in : (q g : ℕ) → q < net.shape.processors → g < net.shape.groupers → g < length (processor_at net q).ins
  processor_in q g hq hg = subst (λ (n : ℕ). g < n) (sym (now.processors q hq).ins) hg

  pub processor_out : (q : ℕ) → q < net.shape.processors → 0 < length (processor_at net q).outs.links
  processor_out q hq = let one : length (processor_at net q).outs.links ≡ 1 = (now.processors q hq).stands.one_out in omega arith

  pub merge_in : (j : ℕ) → j < net.shape.parsers + net.shape.processors → j < length net.merge.ins
  merge_in j less = subst (λ (n : ℕ). j < n) (sym now.merge.ins) less

  -- ---- both ends stand

  captures : ℕ
  captures = length net.job.captures

  items_pair : (p g : ℕ) → p < net.shape.parsers → g < net.shape.groupers → ArePair (tx_at (parser_at net p).outs.links g) (rx_at (grouper_at net g).ins p)
  items_pair p g hp hg =
      let out = parser_out p g hp (omega arith) in
      record {
        sending = (now.parsers p hp).stands.outs.holds.stand g no_tx out;
        receiving = (now.groupers g hg).stands.ins.stand p no_rx (grouper_in g p hg hp);
        counted = parser_counted net (length net.job.captures) refl few_captures few_parsers few_groupers p g (parser_at net p) (now.parsers p hp) out;
      }

  counts_pair : (p : ℕ) → p < net.shape.parsers → ArePair (tx_at (parser_at net p).outs.links net.shape.groupers) (rx_at net.merge.ins p)
  counts_pair p hp =
      let out = parser_out p net.shape.groupers hp (omega arith) in
      record {
        sending = (now.parsers p hp).stands.outs.holds.stand net.shape.groupers no_tx out;
        receiving = now.merge.stands.ins.stand p no_rx (merge_in p (omega arith));
        counted = parser_counted net (length net.job.captures) refl few_captures few_parsers few_groupers p net.shape.groupers (parser_at net p) (now.parsers p hp) out;
      }

  grouper_given : (g p : ℕ) → g < net.shape.groupers → p < net.shape.parsers → length (rx_at (grouper_at net g).ins p).given ≤ parser_frames (length net.job.captures)
  grouper_given g p hg hp =
      le_trans (front_length (rx_at (grouper_at net g).ins p).given (tx_at (parser_at net p).outs.links g).offered (now.links.to_grouper p g hp hg).front)
      (parser_offers net (length net.job.captures) refl few_captures few_parsers few_groupers p g (parser_at net p) (now.parsers p hp) (parser_out p g hp (omega arith)))

  groups_pair : (g q : ℕ) → g < net.shape.groupers → q < net.shape.processors → ArePair (tx_at (grouper_at net g).outs.links q) (rx_at (processor_at net q).ins g)
  groups_pair g q hg hq =
      let out = grouper_out g q hg hq in
      record {
        sending = (now.groupers g hg).stands.outs.holds.stand q no_tx out;
        receiving = (now.processors q hq).stands.ins.stand g no_rx (processor_in q g hq hg);
        counted = grouper_counted net (length net.job.captures) refl few_captures few_parsers few_groupers g q (grouper_at net g) (now.groupers g hg) out (λ p hp. grouper_given g p hg hp);
      }

  processor_given : (q g : ℕ) → q < net.shape.processors → g < net.shape.groupers
      → length (rx_at (processor_at net q).ins g).given ≤ grouper_frames (length net.job.captures) net.shape.parsers
  processor_given q g hq hg =
      le_trans (front_length (rx_at (processor_at net q).ins g).given (tx_at (grouper_at net g).outs.links q).offered (now.links.to_processor g q hg hq).front)
      (grouper_offers net (length net.job.captures) refl few_captures few_parsers few_groupers g q (grouper_at net g) (now.groupers g hg) (grouper_out g q hg hq) (λ p hp. grouper_given g p hg hp))

  answers_pair : (q : ℕ) → q < net.shape.processors → ArePair (tx_at (processor_at net q).outs.links 0) (rx_at net.merge.ins (net.shape.parsers + q))
  answers_pair q hq = record {
    sending = (now.processors q hq).stands.outs.holds.stand 0 no_tx (processor_out q hq);
    receiving = now.merge.stands.ins.stand (net.shape.parsers + q) no_rx (merge_in (net.shape.parsers + q) (omega arith));
    counted = processor_counted net (length net.job.captures) refl few_captures few_parsers few_groupers (processor_at net q) (now.processors q hq) (λ g hg. processor_given q g hq hg);
  }

pub each_stands : EachStands
each_stands net now = record { to_grouper = items_pair net now; to_merge = counts_pair net now; to_processor = groups_pair net now; from_processor = answers_pair net now }
