-- The rows of links that are done.
use Rattle.std.proofs.Common.{ℕ, List, [], ◌∷◌, ◌++◌, ◌≡◌, ◌<◌, ◌≤◌, ◌+◌, ◌*◌, ◌^◌, Bool, true, false, ◌||◌, All, length, get_or, refl, sym, ap, ◌∙◌, subst, arith}
use Rattle.std.specs.Prelude.{IsTrue}
use Rattle.std.proofs.Math.Nat.{le_trans}
use Rattle.node_frames.specs.declared.frame.Frame.{Frame}
use Rattle.credit_link.specs.Ends.{TxSeen, RxSeen, TxStands}
use Rattle.credit_link.specs.Frames.{capped, IsCounted, is_finish, has_finish, FinishIsLast}
use Rattle.credit_link.specs.declared.row.LinkRow.{LinkRow}
use Rattle.shuffle_poll.specs.Shuffles.{ShuffleSeen}
use Rattle.round_law.specs.Links.{Sender, Receiver, new_sender, new_receiver, HasSentAll, HasTakenAll}
use Rattle.round_law.specs.Waits.{Node, IsDone}
use Rattle.round_law.specs.Views.{sender_view, receiver_view}
use Rattle.round_law.specs.Pipeline.{node_of, EachNode}
use Rattle.round_law.specs.Pipeline.Place.{Parser, Grouper, Processor, Merge}
use Rattle.run_law.specs.Laws.{accepted_between, captures_of}
use Rattle.run_law.specs.Shapes.{IsFront}
use Rattle.run_law.proofs.Rows.{rows_are_lawful}
use Rattle.node_lanes.specs.Ends.{senders_of, receivers_of}
use Rattle.net_law.specs.Parsers.{parser_view}
use Rattle.net_law.specs.Groupers.{grouper_view}
use Rattle.net_law.specs.Processors.{processor_view}
use Rattle.net_law.specs.Merges.{merge_view}
use Rattle.net_law.specs.Ends.{no_tx, tx_at, rx_at}
use Rattle.net_law.specs.Nets.{Net, EachPair, parser_at, grouper_at, processor_at, lists_of}
use Rattle.net_law.specs.Pairs.{ArePair}
use Rattle.net_law.specs.Rounds.{view}
use Rattle.net_law.proofs.Counting.{senders_long, receivers_long}
use Rattle.net_law.proofs.Done.{done_nodes_are_done}
use Rattle.net_law.proofs.Ends.{sent_is}
use Rattle.net_law.proofs.Pairs.{each_stands, parser_out, grouper_in, grouper_out, processor_in, processor_out, merge_in}
use Rattle.net_law.proofs.Sound.{node_same}
use Rattle.net_law.proofs.Views.{long, queue_at, sender_is, receiver_is}
use Rattle.pipeline_law.specs.RowLaws.{HeldIsWithin, IsWhole, DoneRowsAgree, DoneRowsHaveBound}
use Rattle.pipeline_law.proofs.Moments.{is_run, moment_is_snapshot}
use Rattle.pipeline_law.proofs.Numbered.{numbered, of_pairs}

-- ---- what was held

-- an end that stands, of so many credits
record HasCredits (number : ℕ) (tx : TxSeen) (rx : RxSeen) : Type 0 where
  stands : TxStands tx
  credits : tx.credits ≡ number

pub held_is_within : HeldIsWithin
held_is_within net now =
    of_pairs net now.parser_count now.grouper_count now.processor_count (HasCredits net.credits) (λ (row : LinkRow). row.most_held ≤ net.credits)
    (λ tx rx from to has. subst (λ (n : ℕ). tx.most_held ≤ n) has.credits has.stands.sender.most_within)
    (record {
      to_grouper = λ p g hp hg. record {
        stands = (pairs.to_grouper p g hp hg).sending;
        credits = (now.parsers p hp).stands.outs.credits g no_tx (parser_out net now p g hp (omega (arith, hg))) ∙ (now.parsers p hp).credits;
      };
      to_merge = λ p hp. record {
        stands = (pairs.to_merge p hp).sending;
        credits = (now.parsers p hp).stands.outs.credits net.shape.groupers no_tx (parser_out net now p net.shape.groupers hp (omega arith)) ∙ (now.parsers p hp).credits;
      };
      to_processor = λ g q hg hq. record {
        stands = (pairs.to_processor g q hg hq).sending;
        credits = (now.groupers g hg).stands.outs.credits q no_tx (grouper_out net now g q hg hq) ∙ (now.groupers g hg).credits;
      };
      from_processor = λ q hq. record {
        stands = (pairs.from_processor q hq).sending;
        credits = (now.processors q hq).stands.outs.credits 0 no_tx (processor_out net now q hq) ∙ (now.processors q hq).credits;
      };
    })
  where
    pairs : EachPair ArePair net
    pairs = each_stands net now

-- ---- the end of a link

-- nothing follows the end
by_end : (b : Bool) (frames rest : List Frame) → (IsTrue b → frames ++ rest ≡ []) → IsTrue (b || has_finish frames) → (IsTrue (has_finish frames) → rest ≡ []) → rest ≡ []
by_end true [] rest last has later = last refl
by_end true (f ∷ frames) rest last has later = absurd (let none : f ∷ (frames ++ rest) ≡ [] = last refl in cc)
by_end false frames rest last has later = later has

nothing_behind : (frames rest : List Frame) → FinishIsLast (frames ++ rest) → IsTrue (has_finish frames) → rest ≡ []
nothing_behind [] rest last has = absurd (let none : false ≡ true = has in cc)
nothing_behind (f ∷ frames) rest last has = by_end (is_finish f) frames rest last.0 has (λ h. nothing_behind frames rest last.1 h)

pub has_some : (frames : List Frame) → IsTrue (has_finish frames) → 1 ≤ length frames
has_some [] has = absurd (let none : false ≡ true = has in cc)
has_some (f ∷ frames) has = omega arith

pub some_capped : (n : ℕ) → 1 ≤ n → 1 ≤ capped n
some_capped n some = omega (arith, some)

-- what was sent on a link, of which the end was taken
record IsEnded (tx : TxSeen) (rx : RxSeen) : Type 0 where
  front : IsFront rx.given tx.offered
  last : FinishIsLast tx.offered
  finish : IsTrue (has_finish rx.given)

all_taken : (tx : TxSeen) (rx : RxSeen) → IsEnded tx rx → tx.offered ≡ rx.given
all_taken tx rx e =
    let none : e.front.rest ≡ [] = nothing_behind rx.given e.front.rest (subst FinishIsLast e.front.joined e.last) e.finish in
    e.front.joined ∙ ap (λ l. rx.given ++ l) none ∙ Rattle.std.proofs.Common.append-nil rx.given

-- ---- nodes that are done

sent_finish : (node : Node) (outs : ShuffleSeen) (k : ℕ) → IsDone node → node.outs ≡ senders_of outs → k < length outs.links → IsTrue (has_finish (tx_at outs.links k).offered)
sent_finish node outs k done is less =
    let there : k < length node.outs = subst (λ (n : ℕ). k < n) (sym (ap (λ (ss : List Sender). length ss) is ∙ senders_long outs.links outs.queues)) less in
    let all : HasSentAll (get_or node.outs k new_sender) = done.outs k new_sender there in
    let at : get_or node.outs k new_sender ≡ sender_view (length (queue_at outs k)) (tx_at outs.links k) = ap (λ (ss : List Sender). get_or ss k new_sender) is ∙ sender_is outs k new_sender less in
    subst (λ (s : Sender). IsTrue (has_finish s.offered)) at all.finish

taken_finish : (node : Node) (ins : List RxSeen) (j : ℕ) → IsDone node → node.ins ≡ receivers_of ins → j < length ins → IsTrue (has_finish (rx_at ins j).given)
taken_finish node ins j done is less =
    let there : j < length node.ins = subst (λ (n : ℕ). j < n) (sym (ap (λ (rs : List Receiver). length rs) is ∙ receivers_long ins)) less in
    let all : HasTakenAll (get_or node.ins j (new_receiver 0)) = done.ins j (new_receiver 0) there in
    let at : get_or node.ins j (new_receiver 0) ≡ receiver_view (rx_at ins j) = ap (λ (rs : List Receiver). get_or rs j (new_receiver 0)) is ∙ receiver_is ins j (new_receiver 0) less in
    subst (λ (r : Receiver). IsTrue (has_finish r.given)) at all.finish

module _ (net : Net) (parser_count : length net.parsers ≡ net.shape.parsers) (grouper_count : length net.groupers ≡ net.shape.groupers) (processor_count : length net.processors ≡ net.shape.processors)
    (done : EachNode IsDone (view net)) where
  pub parser_done : (p : ℕ) → p < net.shape.parsers → IsDone (node_of (view net) (Parser p))
  parser_done p less = done (Parser p) (subst (λ (n : ℕ). p < n) (sym (long parser_view net.parsers ∙ parser_count)) less)

  pub grouper_done : (g : ℕ) → g < net.shape.groupers → IsDone (node_of (view net) (Grouper g))
  grouper_done g less = done (Grouper g) (subst (λ (n : ℕ). g < n) (sym (long grouper_view net.groupers ∙ grouper_count)) less)

  pub processor_done : (q : ℕ) → q < net.shape.processors → IsDone (node_of (view net) (Processor q))
  processor_done q less = done (Processor q) (subst (λ (n : ℕ). q < n) (sym (long processor_view net.processors ∙ processor_count)) less)

  pub parser_sent : (p k : ℕ) → p < net.shape.parsers → k < length (parser_at net p).outs.links → IsTrue (has_finish (tx_at (parser_at net p).outs.links k).offered)
  parser_sent p k less there = sent_finish (node_of (view net) (Parser p)) (parser_at net p).outs k (parser_done p less) (ap (λ (n : Node). n.outs) (node_same net (Parser p))) there

  pub grouper_sent : (g k : ℕ) → g < net.shape.groupers → k < length (grouper_at net g).outs.links → IsTrue (has_finish (tx_at (grouper_at net g).outs.links k).offered)
  grouper_sent g k less there = sent_finish (node_of (view net) (Grouper g)) (grouper_at net g).outs k (grouper_done g less) (ap (λ (n : Node). n.outs) (node_same net (Grouper g))) there

  pub processor_sent : (q k : ℕ) → q < net.shape.processors → k < length (processor_at net q).outs.links → IsTrue (has_finish (tx_at (processor_at net q).outs.links k).offered)
  processor_sent q k less there = sent_finish (node_of (view net) (Processor q)) (processor_at net q).outs k (processor_done q less) (ap (λ (n : Node). n.outs) (node_same net (Processor q))) there

  pub grouper_taken : (g j : ℕ) → g < net.shape.groupers → j < length (grouper_at net g).ins → IsTrue (has_finish (rx_at (grouper_at net g).ins j).given)
  grouper_taken g j less there = taken_finish (node_of (view net) (Grouper g)) (grouper_at net g).ins j (grouper_done g less) (ap (λ (n : Node). n.ins) (node_same net (Grouper g))) there

  pub processor_taken : (q j : ℕ) → q < net.shape.processors → j < length (processor_at net q).ins → IsTrue (has_finish (rx_at (processor_at net q).ins j).given)
  processor_taken q j less there = taken_finish (node_of (view net) (Processor q)) (processor_at net q).ins j (processor_done q less) (ap (λ (n : Node). n.ins) (node_same net (Processor q))) there

  pub merge_taken : (j : ℕ) → j < length net.merge.ins → IsTrue (has_finish (rx_at net.merge.ins j).given)
  merge_taken j there = taken_finish (merge_view net.merge) net.merge.ins j (done Merge tt) refl there

-- ---- the rows

pub done_rows_agree : DoneRowsAgree
done_rows_agree net now done =
    of_pairs net now.parser_count now.grouper_count now.processor_count IsEnded IsWhole
    (λ tx rx from to e. (
      ap (λ (l : List Frame). capped (length l)) (all_taken tx rx e),
      some_capped (length tx.offered) (subst (λ (l : List Frame). 1 ≤ length l) (sym (all_taken tx rx e)) (has_some rx.given e.finish)),
    ))
    (record {
      to_grouper = λ p g hp hg. record {
        front = (now.links.to_grouper p g hp hg).front;
        last = (pairs.to_grouper p g hp hg).sending.sender.last;
        finish = grouper_taken net now.parser_count now.grouper_count now.processor_count done g p hg (grouper_in net now g p hg hp);
      };
      to_merge = λ p hp. record {
        front = (now.links.to_merge p hp).front;
        last = (pairs.to_merge p hp).sending.sender.last;
        finish = merge_taken net now.parser_count now.grouper_count now.processor_count done p (merge_in net now p (omega (arith, hp)));
      };
      to_processor = λ g q hg hq. record {
        front = (now.links.to_processor g q hg hq).front;
        last = (pairs.to_processor g q hg hq).sending.sender.last;
        finish = processor_taken net now.parser_count now.grouper_count now.processor_count done q g hq (processor_in net now q g hq hg);
      };
      from_processor = λ q hq. record {
        front = (now.links.from_processor q hq).front;
        last = (pairs.from_processor q hq).sending.sender.last;
        finish = merge_taken net now.parser_count now.grouper_count now.processor_count done (net.shape.parsers + q) (merge_in net now (net.shape.parsers + q) (omega (arith, hq)));
      };
    })
  where
    pairs : EachPair ArePair net
    pairs = each_stands net now

counted_sent : (n : ℕ) → n < 2 ^ 64 → n ≤ capped n
counted_sent n counted = omega (arith, counted)

pub done_rows_have_bound : DoneRowsHaveBound
done_rows_have_bound net files now all tells p g d hp hg =
    let run = rows_are_lawful net.job files net.shape [] (lists_of net []) (is_run net files now tells) (moment_is_snapshot net files [] now tells) (done_nodes_are_done net [] now all.0 all.1) in
    let least : length (accepted_between net.job files net.shape p g) + length (captures_of net.job net.shape p) + 1 ≤ length (tx_at (parser_at net p).outs.links g).offered =
    subst (λ (l : List Frame). length (accepted_between net.job files net.shape p g) + length (captures_of net.job net.shape p) + 1 ≤ length l) (sent_is (parser_at net p).outs g) (run.least p g hp hg) in
    let counted : IsCounted (tx_at (parser_at net p).outs.links g).offered = ((each_stands net now).to_grouper p g hp hg).counted in
    let at = (numbered net now.parser_count now.grouper_count now.processor_count).to_grouper p g d hp hg in
    subst (λ (row : LinkRow). length (accepted_between net.job files net.shape p g) + length (captures_of net.job net.shape p) + 1 ≤ row.sent) (sym at)
    (le_trans least (counted_sent (length (tx_at (parser_at net p).outs.links g).offered) counted))
