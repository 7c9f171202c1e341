-- A pipeline in which nothing is held back.
use Rattle.std.proofs.Common.{ℕ, zero, suc, List, [], ◌∷◌, ◌++◌, ◌≡◌, ◌<◌, ◌≤◌, ◌+◌, length, refl, sym, ap, subst, ◌∙◌, arith, length-append}
use Rattle.std.specs.Prelude.{All, slice_index_or}
use Rattle.std.proofs.lemmas.List.{nil_from_length, get_or_default}
use Rattle.node_frames.specs.declared.frame.Frame.{Frame}
use Rattle.credit_link.specs.Ends.{TxSeen, RxSeen}
use Rattle.shuffle_poll.specs.Shuffles.{ShuffleSeen}
use Rattle.run_law.specs.Nodes.{GrouperSendsAll, ProcessorSendsAll, HasWrittenDue}
use Rattle.node_lanes.specs.Ends.{given_on, put_on, puts_with}
use Rattle.net_law.specs.Groupers as gn
use Rattle.net_law.specs.Processors as qn
use Rattle.net_law.specs.Merges as mn
use Rattle.net_law.specs.Ends.{tx_at, rx_at}
use Rattle.net_law.specs.Nets.{Net, NetStands, AreEnds, grouper_at, processor_at}
use Rattle.net_law.specs.Rests.{HaveRested, RestedIsAtRest}
use Rattle.net_law.proofs.Counting.{front_length}
use Rattle.net_law.proofs.Ends.{given_is}
use Rattle.net_law.proofs.Moments.{by_same, grouper_shape, processor_shape, merge_shape}
use Rattle.net_law.proofs.Views.{queue_at}

put_with : (links : List TxSeen) (queues : List (List Frame)) (k : ℕ) → length queues ≡ length links → k < length links
    → slice_index_or (puts_with links queues) k [] ≡ (tx_at links k).offered ++ slice_index_or queues k []
put_with [] queues k long less = absurd (omega arith)
put_with (l ∷ links) [] k long less = absurd (omega arith)
put_with (l ∷ links) (q ∷ queues) zero long less = refl
put_with (l ∷ links) (q ∷ queues) (suc k) long less = put_with links queues k (omega arith) (omega arith)

-- nothing waits where all was taken
none_waits : (number : ℕ) (outs : ShuffleSeen) (k : ℕ) (ins : List RxSeen) (j : ℕ) → AreEnds number (tx_at outs.links k) (rx_at ins j) → length outs.queues ≡ length outs.links → k < length outs.links
    → given_on ins j ≡ put_on outs k → queue_at outs k ≡ []
none_waits number outs k ins j ends long less all =
    let whole : (rx_at ins j).given ≡ (tx_at outs.links k).offered ++ queue_at outs k = sym (given_is ins j) ∙ all ∙ put_with outs.links outs.queues k long less in
    let count : length (rx_at ins j).given ≡ length (tx_at outs.links k).offered + length (queue_at outs k) = ap length whole ∙ length-append (tx_at outs.links k).offered (queue_at outs k) in
    let within : length (rx_at ins j).given ≤ length (tx_at outs.links k).offered = front_length (rx_at ins j).given (tx_at outs.links k).offered ends.front in
    nil_from_length (queue_at outs k) (omega arith)

all_empty : (outs : ShuffleSeen) (n : ℕ) → length outs.queues ≡ length outs.links → length outs.links ≡ n → ((k : ℕ) → k < n → queue_at outs k ≡ []) → All (λ (queue : List Frame). queue ≡ []) outs.queues
all_empty outs n long links each k d less =
    subst (λ (queue : List Frame). queue ≡ []) (get_or_default outs.queues k [] d less) (each k (subst (λ (m : ℕ). k < m) (long ∙ links) less))

module _ (net : Net) (start : List ℕ) (now : NetStands net) (rested : HaveRested net start) where
  grouper : (g : ℕ) → g < net.shape.groupers → GrouperSendsAll net.job net.shape g (given_on (grouper_at net g).ins) (put_on (grouper_at net g).outs)
  grouper g hg =
      let is = now.groupers g hg in
      let empty = all_empty (grouper_at net g).outs net.shape.processors is.stands.outs.holds.as_many is.outs (λ q hq.
      none_waits net.credits (grouper_at net g).outs q (processor_at net q).ins g (now.links.to_processor g q hg hq) is.stands.outs.holds.as_many
      (subst (λ (n : ℕ). q < n) (sym is.outs) hq) (rested.groups g q hg hq)) in
      by_same (λ job shape me. GrouperSendsAll job shape me (given_on (grouper_at net g).ins) (put_on (grouper_at net g).outs)) (grouper_at net g).job net.job
      (gn.shape_of (grouper_at net g)) net.shape (grouper_at net g).me g is.job (grouper_shape net g (grouper_at net g) is) is.me ((rested.groupers g hg).sends empty)

  processor : (q : ℕ) → q < net.shape.processors → ProcessorSendsAll net.job net.shape (given_on (processor_at net q).ins) (put_on (processor_at net q).outs 0)
  processor q hq =
      let is = now.processors q hq in
      let one : length (processor_at net q).outs.links ≡ 1 = is.stands.one_out in
      let empty = all_empty (processor_at net q).outs 1 is.stands.outs.holds.as_many is.stands.one_out (λ k less.
      let first : 0 ≡ k = omega arith in
      let out : 0 < length (processor_at net q).outs.links = omega arith in
      subst (λ (i : ℕ). queue_at (processor_at net q).outs i ≡ []) first
      (none_waits net.credits (processor_at net q).outs 0 net.merge.ins (net.shape.parsers + q) (now.links.from_processor q hq) is.stands.outs.holds.as_many out (rested.answers q hq))) in
      by_same (λ job shape me. ProcessorSendsAll job shape (given_on (processor_at net q).ins) (put_on (processor_at net q).outs 0)) (processor_at net q).job net.job
      (qn.shape_with (processor_at net q) net.shape.parsers net.shape.processors) net.shape 0 0 is.job (processor_shape net (processor_at net q) is) refl
      ((rested.processors q hq).sends empty net.shape.parsers net.shape.processors)

  merge : HasWrittenDue net.job net.shape (given_on net.merge.ins) (λ q. given_on net.merge.ins (net.shape.parsers + q)) [] net.merge.gained
  merge =
      subst (λ (n : ℕ). HasWrittenDue net.job net.shape (given_on net.merge.ins) (λ q. given_on net.merge.ins (n + q)) [] net.merge.gained) now.merge.parsers
      (by_same (λ job shape me. HasWrittenDue job shape (mn.counts_on net.merge) (mn.answers_on net.merge) [] net.merge.gained) net.merge.job net.job
      (mn.shape_with net.merge net.shape.groupers) net.shape 0 0 now.merge.job (merge_shape net net.merge now.merge) refl (rested.merge net.shape.groupers))

pub rested_is_at_rest : RestedIsAtRest
rested_is_at_rest net start now rested = record {
  groups_taken = rested.groups;
  answers_taken = rested.answers;
  groupers = grouper net start now rested;
  processors = processor net start now rested;
  merge = λ ordered in_order. ap (λ (ws : List ℕ). start ++ ws) (merge net start now rested ordered in_order);
}
