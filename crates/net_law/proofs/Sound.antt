-- A pipeline that stands and in which no node has met a fault is sound, limited and, after a look, joined.
use Rattle.std.proofs.Common.{ℕ, List, [], ◌≡◌, ◌<◌, ◌≤◌, ◌+◌, ◌-◌, None, length, refl, sym, ap, subst, ◌∙◌, ⊎_elim, arith}
use Rattle.std.specs.Prelude.{IsTrue, All}
use Rattle.std.proofs.lemmas.Bool.{cases_lt}
use Rattle.credit_link.specs.Ends.{TxSeen, RxSeen}
use Rattle.shuffle_poll.specs.Shuffles.{ShuffleSeen}
use Rattle.round_law.specs.Links.{Sender, Receiver, new_sender, new_receiver, AreJoined}
use Rattle.round_law.specs.Waits.{Node, in_at, out_at}
use Rattle.round_law.specs.Rows.{IsOrderly, HasSoundEnds, OffersFew}
use Rattle.round_law.specs.Views.{sender_view, receiver_view}
use Rattle.round_law.specs.Pipeline.{Place, node_of, IsIn, EachNode, EachLink, IsShaped, IsSound}
use Rattle.round_law.specs.Pipeline as round
use Rattle.round_law.specs.Pipeline.Place.{Parser, Grouper, Processor, Merge}
use Rattle.round_law.specs.Measure.{ReadsFew, ReadsNone, IsInLimits, IsLimited}
use Rattle.round_law.proofs.Views.{looked_is_joined}
use Rattle.node_lanes.specs.Ends.{senders_of, receivers_of}
use Rattle.net_law.specs.Parsers.{parser_view}
use Rattle.net_law.specs.Groupers.{grouper_view}
use Rattle.net_law.specs.Processors.{processor_view}
use Rattle.net_law.specs.Merges.{merge_view}
use Rattle.net_law.specs.Ends.{no_tx, no_rx, tx_at, rx_at}
use Rattle.net_law.specs.Nets.{Net, NetStands, EachPair, AreEnds, no_outs, parser_at, grouper_at, processor_at}
use Rattle.net_law.specs.Pairs.{ArePair}
use Rattle.net_law.specs.Steps.{AreLooked}
use Rattle.net_law.specs.Rounds.{view, NoneHasFault, captures_of, ViewIsSound, ViewIsLimited, ViewIsJoined}
use Rattle.net_law.proofs.Counting.{senders_long, receivers_long}
use Rattle.net_law.proofs.Pairs.{each_stands, few_captures, few_parsers, few_groupers, parser_out, grouper_in, grouper_out, processor_in, processor_out, merge_in}
use Rattle.net_law.proofs.Views.{long, sender_is, receiver_is, queue_at, parser_view_at, grouper_view_at, processor_view_at, TxGood, RxGood, granted, taken, offered, senders, receivers, last_front}

-- ---- the nodes by their places

abbrev pub node_view : Net → Place → Node
node_view net (Parser p) = parser_view (parser_at net p)
node_view net (Grouper g) = grouper_view (grouper_at net g)
node_view net (Processor q) = processor_view (processor_at net q)
node_view net Merge = merge_view net.merge

pub node_same : (net : Net) (place : Place) → node_of (view net) place ≡ node_view net place
node_same net (Parser p) = parser_view_at net.parsers net.job p
node_same net (Grouper g) = grouper_view_at net.groupers net.job g
node_same net (Processor q) = processor_view_at net.processors net.job q
node_same net Merge = refl

-- ---- one link

link_as : (R : Sender → Receiver → Type 0) (n m : Node) (s : ShuffleSeen) (ins : List RxSeen) (k j : ℕ) → n.outs ≡ senders_of s → m.ins ≡ receivers_of ins → k < length s.links → j < length ins
    → R (sender_view (length (queue_at s k)) (tx_at s.links k)) (receiver_view (rx_at ins j)) → R (out_at n k) (in_at m j)
link_as R n m s ins k j outs into out within h =
    subst (λ (t : Sender). R t (in_at m j)) (sym (ap (λ (ss : List Sender). Rattle.std.specs.Prelude.slice_index_or ss k new_sender) outs ∙ sender_is s k new_sender out))
    (subst (λ (r : Receiver). R (sender_view (length (queue_at s k)) (tx_at s.links k)) r)
    (sym (ap (λ (rs : List Receiver). Rattle.std.specs.Prelude.slice_index_or rs j (new_receiver 0)) into ∙ receiver_is ins j (new_receiver 0) within)) h)

joined_as : (number waiting : ℕ) (tx : TxSeen) (rx : RxSeen) → ArePair tx rx → tx.credits ≡ number → AreLooked number tx rx → AreJoined number (sender_view waiting tx) (receiver_view rx)
joined_as number waiting tx rx pair credits look =
    subst (λ (n : ℕ). AreJoined n (sender_view waiting tx) (receiver_view rx)) credits
    (looked_is_joined waiting tx rx pair.sending look.bytes (subst (λ (n : ℕ). Rattle.byte_rings.specs.Rings.IsOnRing n rx.back tx.back) (sym credits) look.credits))

module _ (net : Net) (now : NetStands net) where
  pairs : EachPair ArePair net
  pairs = each_stands net now

  pub parsers_long : length (view net).parsers ≡ net.shape.parsers
  parsers_long = long parser_view net.parsers ∙ now.parser_count

  pub groupers_long : length (view net).groupers ≡ net.shape.groupers
  groupers_long = long grouper_view net.groupers ∙ now.grouper_count

  pub processors_long : length (view net).processors ≡ net.shape.processors
  processors_long = long processor_view net.processors ∙ now.processor_count

  pub parser_in_view : (p : ℕ) → p < length (view net).parsers → p < net.shape.parsers
  parser_in_view p less = subst (λ (n : ℕ). p < n) parsers_long less

  pub grouper_in_view : (g : ℕ) → g < length (view net).groupers → g < net.shape.groupers
  grouper_in_view g less = subst (λ (n : ℕ). g < n) groupers_long less

  pub processor_in_view : (q : ℕ) → q < length (view net).processors → q < net.shape.processors
  processor_in_view q less = subst (λ (n : ℕ). q < n) processors_long less

  pub each_node : (P : Node → Type 0) → ((p : ℕ) → p < net.shape.parsers → P (parser_view (parser_at net p))) → ((g : ℕ) → g < net.shape.groupers → P (grouper_view (grouper_at net g)))
      → ((q : ℕ) → q < net.shape.processors → P (processor_view (processor_at net q))) → P (merge_view net.merge) → EachNode P (view net)
  each_node P parsers groupers processors merge (Parser p) there = subst P (sym (node_same net (Parser p))) (parsers p (parser_in_view p there))
  each_node P parsers groupers processors merge (Grouper g) there = subst P (sym (node_same net (Grouper g))) (groupers g (grouper_in_view g there))
  each_node P parsers groupers processors merge (Processor q) there = subst P (sym (node_same net (Processor q))) (processors q (processor_in_view q there))
  each_node P parsers groupers processors merge Merge there = merge

  -- ---- the shape

  shaped : IsShaped (view net)
  shaped = record {
    parser_ins = λ p less. ap (λ (n : Node). length n.ins) (node_same net (Parser p));
    parser_outs = λ p less.
        ap (λ (n : Node). length n.outs) (node_same net (Parser p)) ∙ senders_long (parser_at net p).outs.links (parser_at net p).outs.queues
        ∙ (now.parsers p (parser_in_view p less)).outs ∙ ap (λ (n : ℕ). n + 1) (sym groupers_long);
    grouper_ins = λ g less.
        ap (λ (n : Node). length n.ins) (node_same net (Grouper g)) ∙ receivers_long (grouper_at net g).ins ∙ (now.groupers g (grouper_in_view g less)).ins ∙ sym parsers_long;
    grouper_outs = λ g less.
        ap (λ (n : Node). length n.outs) (node_same net (Grouper g)) ∙ senders_long (grouper_at net g).outs.links (grouper_at net g).outs.queues
        ∙ (now.groupers g (grouper_in_view g less)).outs ∙ sym processors_long;
    processor_ins = λ q less.
        ap (λ (n : Node). length n.ins) (node_same net (Processor q)) ∙ receivers_long (processor_at net q).ins ∙ (now.processors q (processor_in_view q less)).ins ∙ sym groupers_long;
    processor_outs = λ q less.
        ap (λ (n : Node). length n.outs) (node_same net (Processor q)) ∙ senders_long (processor_at net q).outs.links (processor_at net q).outs.queues
        ∙ (now.processors q (processor_in_view q less)).stands.one_out;
    merge_ins = receivers_long net.merge.ins ∙ now.merge.ins ∙ ap (λ (n : ℕ). n + net.shape.processors) (sym parsers_long) ∙ ap (λ (n : ℕ). length (view net).parsers + n) (sym processors_long);
    merge_outs = refl;
  }

  -- ---- the limits

  pub few : EachNode OffersFew (view net)
  few = each_node OffersFew (λ p hp. (now.parsers p hp).stands.offers_few) (λ g hg. (now.groupers g hg).stands.offers_few) (λ q hq. (now.processors q hq).stands.offers_few) (λ k d less. absurd (omega arith))

  limited : IsLimited (captures_of net) (view net)
  limited = record {
    parsers = λ p less.
        let is = now.parsers p (parser_in_view p less) in
        subst (ReadsFew (captures_of net)) (sym (node_same net (Parser p)))
        (subst (λ job. ReadsFew (length (Rattle.summary_spec.specs.Declaration.Declared.captures job)) (parser_view (parser_at net p))) is.job is.stands.reads_few);
    groupers = λ g less. subst ReadsNone (sym (node_same net (Grouper g))) (record { read = refl; records = refl });
    processors = λ q less. subst ReadsNone (sym (node_same net (Processor q))) (record { read = refl; records = refl });
    merge = record { read = refl; records = refl };
    few = few;
  }

  few_processors : net.shape.processors ≤ 16
  few_processors = let first = now.groupers 0 now.shape_is.groupers in subst (λ (n : ℕ). n ≤ 16) first.outs first.stands.outs_few.1

  in_limits : IsInLimits (captures_of net) (view net)
  in_limits = record {
    few_captures = few_captures net now;
    parsers = subst (λ (n : ℕ). n ≤ 16) (sym parsers_long) (few_parsers net now);
    groupers = subst (λ (n : ℕ). n ≤ 16) (sym groupers_long) (few_groupers net now);
    processors = subst (λ (n : ℕ). n ≤ 16) (sym processors_long) few_processors;
  }

  -- ---- joined ends

  module _ (looked : EachPair (AreLooked net.credits) net) where
    joined : EachLink (AreJoined net.credits) (view net)
    joined = record {
      to_grouper = λ p g lp lg.
          let hp = parser_in_view p lp in
          let hg = grouper_in_view g lg in
          let out = parser_out net now p g hp (omega arith) in
          link_as (AreJoined net.credits) (round.parser_at (view net) p) (round.grouper_at (view net) g) (parser_at net p).outs (grouper_at net g).ins g p
          (ap (λ (n : Node). n.outs) (node_same net (Parser p))) (ap (λ (n : Node). n.ins) (node_same net (Grouper g))) out (grouper_in net now g p hg hp)
          (joined_as net.credits (length (queue_at (parser_at net p).outs g)) (tx_at (parser_at net p).outs.links g) (rx_at (grouper_at net g).ins p) (pairs.to_grouper p g hp hg)
          ((now.parsers p hp).stands.outs.credits g no_tx out ∙ (now.parsers p hp).credits) (looked.to_grouper p g hp hg));
      to_merge = λ p lp.
          let hp = parser_in_view p lp in
          let out = parser_out net now p net.shape.groupers hp (omega arith) in
          subst (λ (k : ℕ). AreJoined net.credits (out_at (round.parser_at (view net) p) k) (in_at (view net).merge p)) (sym groupers_long)
          (link_as (AreJoined net.credits) (round.parser_at (view net) p) (view net).merge (parser_at net p).outs net.merge.ins net.shape.groupers p
          (ap (λ (n : Node). n.outs) (node_same net (Parser p))) refl out (merge_in net now p (omega arith))
          (joined_as net.credits (length (queue_at (parser_at net p).outs net.shape.groupers)) (tx_at (parser_at net p).outs.links net.shape.groupers) (rx_at net.merge.ins p) (pairs.to_merge p hp)
          ((now.parsers p hp).stands.outs.credits net.shape.groupers no_tx out ∙ (now.parsers p hp).credits) (looked.to_merge p hp)));
      to_processor = λ g q lg lq.
          let hg = grouper_in_view g lg in
          let hq = processor_in_view q lq in
          let out = grouper_out net now g q hg hq in
          link_as (AreJoined net.credits) (round.grouper_at (view net) g) (round.processor_at (view net) q) (grouper_at net g).outs (processor_at net q).ins q g
          (ap (λ (n : Node). n.outs) (node_same net (Grouper g))) (ap (λ (n : Node). n.ins) (node_same net (Processor q))) out (processor_in net now q g hq hg)
          (joined_as net.credits (length (queue_at (grouper_at net g).outs q)) (tx_at (grouper_at net g).outs.links q) (rx_at (processor_at net q).ins g) (pairs.to_processor g q hg hq)
          ((now.groupers g hg).stands.outs.credits q no_tx out ∙ (now.groupers g hg).credits) (looked.to_processor g q hg hq));
      from_processor = λ q lq.
          let hq = processor_in_view q lq in
          let out = processor_out net now q hq in
          subst (λ (n : ℕ). AreJoined net.credits (out_at (round.processor_at (view net) q) 0) (in_at (view net).merge (n + q))) (sym parsers_long)
          (link_as (AreJoined net.credits) (round.processor_at (view net) q) (view net).merge (processor_at net q).outs net.merge.ins 0 (net.shape.parsers + q)
          (ap (λ (n : Node). n.outs) (node_same net (Processor q))) refl out (merge_in net now (net.shape.parsers + q) (omega arith))
          (joined_as net.credits (length (queue_at (processor_at net q).outs 0)) (tx_at (processor_at net q).outs.links 0) (rx_at net.merge.ins (net.shape.parsers + q)) (pairs.from_processor q hq)
          ((now.processors q hq).stands.outs.credits 0 no_tx out ∙ (now.processors q hq).credits) (looked.from_processor q hq)));
    }

  -- ---- where no node has met a fault

  module _ (quiet : NoneHasFault net) where
    ends_tx : (number : ℕ) (tx : TxSeen) (rx : RxSeen) → AreEnds number tx rx → ArePair tx rx → tx.fault ≡ None → tx.credits ≡ net.credits → TxGood net.credits tx
    ends_tx number tx rx ends pair none credits = record { stands = pair.sending; tells = record { forth = ends.told.0; back = ends.told.1 }; quiet = none; credits = credits }

    ends_rx : (number : ℕ) (tx : TxSeen) (rx : RxSeen) → AreEnds number tx rx → ArePair tx rx → rx.ungranted ≡ 0 → RxGood rx
    ends_rx number tx rx ends pair none = record {
      stands = pair.receiving;
      tells = record { forth = ends.told.2; back = ends.told.3 };
      granted = none;
      last = last_front rx.given tx.offered ends.front pair.sending.sender.last;
    }

    parser_good : (p : ℕ) → p < net.shape.parsers → (k : ℕ) → k < length (parser_at net p).outs.links → TxGood net.credits (tx_at (parser_at net p).outs.links k)
    parser_good p hp k less =
        let is = now.parsers p hp in
        let outs : length (parser_at net p).outs.links ≡ net.shape.groupers + 1 = is.outs in
        let none = (is.stands.quiet (quiet.parsers p hp)).1 k no_tx less in
        let credits = is.stands.outs.credits k no_tx less ∙ is.credits in
        ⊎_elim
        (λ (early : k < net.shape.groupers).
        ends_tx net.credits (tx_at (parser_at net p).outs.links k) (rx_at (grouper_at net k).ins p) (now.links.to_grouper p k hp early) (pairs.to_grouper p k hp early) none credits)
        (λ (late : net.shape.groupers ≤ k).
        let same : net.shape.groupers ≡ k = omega arith in
        ends_tx net.credits (tx_at (parser_at net p).outs.links k) (rx_at net.merge.ins p)
        (subst (λ (i : ℕ). AreEnds net.credits (tx_at (parser_at net p).outs.links i) (rx_at net.merge.ins p)) same (now.links.to_merge p hp))
        (subst (λ (i : ℕ). ArePair (tx_at (parser_at net p).outs.links i) (rx_at net.merge.ins p)) same (pairs.to_merge p hp)) none credits)
        (cases_lt k net.shape.groupers)

    grouper_good_in : (g : ℕ) → g < net.shape.groupers → (j : ℕ) → j < length (grouper_at net g).ins → RxGood (rx_at (grouper_at net g).ins j)
    grouper_good_in g hg j less =
        let is = now.groupers g hg in
        let hp : j < net.shape.parsers = subst (λ (n : ℕ). j < n) is.ins less in
        ends_rx net.credits (tx_at (parser_at net j).outs.links g) (rx_at (grouper_at net g).ins j) (now.links.to_grouper j g hp hg) (pairs.to_grouper j g hp hg)
        ((is.stands.quiet (quiet.groupers g hg)).0.granted j no_rx less)

    grouper_good : (g : ℕ) → g < net.shape.groupers → (k : ℕ) → k < length (grouper_at net g).outs.links → TxGood net.credits (tx_at (grouper_at net g).outs.links k)
    grouper_good g hg k less =
        let is = now.groupers g hg in
        let hq : k < net.shape.processors = subst (λ (n : ℕ). k < n) is.outs less in
        ends_tx net.credits (tx_at (grouper_at net g).outs.links k) (rx_at (processor_at net k).ins g) (now.links.to_processor g k hg hq) (pairs.to_processor g k hg hq)
        ((is.stands.quiet (quiet.groupers g hg)).1 k no_tx less) (is.stands.outs.credits k no_tx less ∙ is.credits)

    processor_good_in : (q : ℕ) → q < net.shape.processors → (j : ℕ) → j < length (processor_at net q).ins → RxGood (rx_at (processor_at net q).ins j)
    processor_good_in q hq j less =
        let is = now.processors q hq in
        let hg : j < net.shape.groupers = subst (λ (n : ℕ). j < n) is.ins less in
        ends_rx net.credits (tx_at (grouper_at net j).outs.links q) (rx_at (processor_at net q).ins j) (now.links.to_processor j q hg hq) (pairs.to_processor j q hg hq)
        ((is.stands.quiet (quiet.processors q hq)).0.granted j no_rx less)

    processor_good : (q : ℕ) → q < net.shape.processors → (k : ℕ) → k < length (processor_at net q).outs.links → TxGood net.credits (tx_at (processor_at net q).outs.links k)
    processor_good q hq k less =
        let is = now.processors q hq in
        let one : length (processor_at net q).outs.links ≡ 1 = is.stands.one_out in
        let first : 0 ≡ k = omega arith in
        let good = ends_tx net.credits (tx_at (processor_at net q).outs.links 0) (rx_at net.merge.ins (net.shape.parsers + q)) (now.links.from_processor q hq) (pairs.from_processor q hq)
        ((is.stands.quiet (quiet.processors q hq)).1 0 no_tx (processor_out net now q hq)) (is.stands.outs.credits 0 no_tx (processor_out net now q hq) ∙ is.credits) in
        subst (λ (i : ℕ). TxGood net.credits (tx_at (processor_at net q).outs.links i)) first good

    merge_good_in : (j : ℕ) → j < length net.merge.ins → RxGood (rx_at net.merge.ins j)
    merge_good_in j less =
        let is = now.merge in
        let ins : length net.merge.ins ≡ net.shape.parsers + net.shape.processors = is.ins in
        let none = (is.stands.quiet quiet.merge).granted j no_rx less in
        ⊎_elim
        (λ (early : j < net.shape.parsers).
        ends_rx net.credits (tx_at (parser_at net j).outs.links net.shape.groupers) (rx_at net.merge.ins j) (now.links.to_merge j early) (pairs.to_merge j early) none)
        (λ (late : net.shape.parsers ≤ j).
        merge_late j less late none)
        (cases_lt j net.shape.parsers)
      where
        merge_at : (j q : ℕ) → net.shape.parsers + q ≡ j → q < net.shape.processors → (rx_at net.merge.ins j).ungranted ≡ 0 → RxGood (rx_at net.merge.ins j)
        merge_at j q same hq none =
            subst (λ (i : ℕ). RxGood (rx_at net.merge.ins i)) same
            (ends_rx net.credits (tx_at (processor_at net q).outs.links 0) (rx_at net.merge.ins (net.shape.parsers + q)) (now.links.from_processor q hq) (pairs.from_processor q hq)
            (subst (λ (i : ℕ). (rx_at net.merge.ins i).ungranted ≡ 0) (sym same) none))

        merge_late : (j : ℕ) → j < length net.merge.ins → net.shape.parsers ≤ j → (rx_at net.merge.ins j).ungranted ≡ 0 → RxGood (rx_at net.merge.ins j)
        merge_late j less late none =
            let ins : length net.merge.ins ≡ net.shape.parsers + net.shape.processors = now.merge.ins in
            merge_at j (j - net.shape.parsers) (omega arith) (omega arith) none

    no_good_in : (j : ℕ) → j < 0 → RxGood (rx_at [] j)
    no_good_in j less = absurd (omega arith)

    no_good : (k : ℕ) → k < 0 → TxGood net.credits (tx_at [] k)
    no_good k less = absurd (omega arith)

    pub orderly : EachNode IsOrderly (view net)
    orderly = each_node IsOrderly
        (λ p hp. record {
          granted = granted net.credits [] (parser_at net p).outs no_good_in (parser_good p hp);
          taken = taken net.credits [] (parser_at net p).outs no_good_in (parser_good p hp);
          offered = offered net.credits [] (parser_at net p).outs no_good_in (parser_good p hp);
        })
        (λ g hg. record {
          granted = granted net.credits (grouper_at net g).ins (grouper_at net g).outs (grouper_good_in g hg) (grouper_good g hg);
          taken = taken net.credits (grouper_at net g).ins (grouper_at net g).outs (grouper_good_in g hg) (grouper_good g hg);
          offered = offered net.credits (grouper_at net g).ins (grouper_at net g).outs (grouper_good_in g hg) (grouper_good g hg);
        })
        (λ q hq. record {
          granted = granted net.credits (processor_at net q).ins (processor_at net q).outs (processor_good_in q hq) (processor_good q hq);
          taken = taken net.credits (processor_at net q).ins (processor_at net q).outs (processor_good_in q hq) (processor_good q hq);
          offered = offered net.credits (processor_at net q).ins (processor_at net q).outs (processor_good_in q hq) (processor_good q hq);
        })
        (record {
          granted = granted net.credits net.merge.ins no_outs merge_good_in no_good;
          taken = taken net.credits net.merge.ins no_outs merge_good_in no_good;
          offered = offered net.credits net.merge.ins no_outs merge_good_in no_good;
        })

    pub sound_ends : EachNode (HasSoundEnds net.credits) (view net)
    sound_ends = each_node (HasSoundEnds net.credits)
        (λ p hp. record {
          senders = senders net.credits [] (parser_at net p).outs no_good_in (parser_good p hp);
          receivers = receivers net.credits [] (parser_at net p).outs no_good_in (parser_good p hp);
        })
        (λ g hg. record {
          senders = senders net.credits (grouper_at net g).ins (grouper_at net g).outs (grouper_good_in g hg) (grouper_good g hg);
          receivers = receivers net.credits (grouper_at net g).ins (grouper_at net g).outs (grouper_good_in g hg) (grouper_good g hg);
        })
        (λ q hq. record {
          senders = senders net.credits (processor_at net q).ins (processor_at net q).outs (processor_good_in q hq) (processor_good q hq);
          receivers = receivers net.credits (processor_at net q).ins (processor_at net q).outs (processor_good_in q hq) (processor_good q hq);
        })
        (record {
          senders = senders net.credits net.merge.ins no_outs merge_good_in no_good;
          receivers = receivers net.credits net.merge.ins no_outs merge_good_in no_good;
        })

pub view_is_sound : ViewIsSound
view_is_sound net now quiet = record { shaped = shaped net now; orderly = orderly net now quiet; ends = sound_ends net now quiet }

pub view_is_limited : ViewIsLimited
view_is_limited net now = (in_limits net now, limited net now)

pub view_is_joined : ViewIsJoined
view_is_joined net now looked = joined net now looked
