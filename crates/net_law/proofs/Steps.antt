-- The pipeline stands after steps of any nodes.
use Rattle.std.proofs.Common.{ℕ, List, ◌≡◌, ◌<◌, ◌≤◌, ◌+◌, length, refl, sym, ap, subst, ◌∙◌, ⊎_elim, arith}
use Rattle.std.specs.Prelude.{IsTrue}
use Rattle.std.proofs.Math.Nat.{le_trans}
use Rattle.node_frames.specs.declared.frame.Frame.{Frame}
use Rattle.credit_link.specs.Ends.{TxSeen, RxSeen, TxStands, RxStands}
use Rattle.credit_link.specs.Frames.{IsCounted}
use Rattle.credit_link.specs.Joined.{AreJoined}
use Rattle.credit_link.proofs.Joining.{frames_are_a_prefix}
use Rattle.round_law.specs.Measure.{parser_frames, grouper_frames}
use Rattle.run_law.specs.Shapes.{IsFront}
use Rattle.run_law.proofs.Lists.{front_trans}
use Rattle.node_lanes.specs.Ends.{TxGoes, RxGoes}
use Rattle.net_law.specs.Ends.{no_tx, no_rx, tx_at, rx_at}
use Rattle.net_law.specs.Nets.{Net, NetStands, AreEnds, IsParserOf, IsGrouperOf, IsProcessorOf, IsMergeOf, parser_at, grouper_at, processor_at}
use Rattle.net_law.specs.Steps.{AreLooked, IsSeenTo, NetGoes, NetGoesOn}
use Rattle.net_law.proofs.Counting.{parser_offers, parser_counted, grouper_offers, grouper_counted, processor_counted, front_length}

-- ---- one link

-- ends that were looked at are joined
pub looked_join : (number : ℕ) (tx : TxSeen) (rx : RxSeen) → TxStands tx → RxStands rx → IsTrue tx.forth.told × IsTrue tx.back.told × IsTrue rx.forth.told × IsTrue rx.back.told
    → IsCounted tx.offered → AreLooked number tx rx → AreJoined tx rx
looked_join number tx rx sending receiving told counted look = record {
  sending = sending;
  receiving = receiving;
  told = told;
  counted = counted;
  bytes = (look.bytes.between, look.bytes.sent);
  credits = (look.credits.between, look.credits.sent);
}

pub ends_go : (number : ℕ) (tx tx' : TxSeen) (rx rx' : RxSeen) → AreEnds number tx rx → TxGoes tx tx' → RxGoes rx rx' → TxStands tx' → RxStands rx' → IsCounted tx'.offered
    → IsSeenTo number tx' rx rx' → AreEnds number tx' rx'
ends_go number tx tx' rx rx' ends sent taken sending receiving counted seen = record {
  one = (taken.names.0 ∙ ends.one.0 ∙ sym sent.names.0, taken.names.1 ∙ ends.one.1 ∙ sym sent.names.1);
  data_places = ap (λ name. name.capacity) sent.names.0 ∙ ends.data_places;
  credit_places = ap (λ name. name.capacity) sent.names.1 ∙ ends.credit_places;
  told = told;
  front = ⊎_elim
      (λ (same : rx'.given ≡ rx.given). subst (λ (frames : List Frame). IsFront frames tx'.offered) (sym same) (front_trans rx.given tx.offered tx'.offered ends.front sent.offered))
      (λ (look : AreLooked number tx' rx').
      let prefix = frames_are_a_prefix tx' rx' (looked_join number tx' rx' sending receiving told counted look) in record { rest = prefix.0; joined = prefix.1 })
      seen;
}
  where
    told : IsTrue tx'.forth.told × IsTrue tx'.back.told × IsTrue rx'.forth.told × IsTrue rx'.back.told
    told = (sent.told.0 ∙ ends.told.0, sent.told.1 ∙ ends.told.1, taken.told.0 ∙ ends.told.2, taken.told.1 ∙ ends.told.3)

module _ (before after : Net) (now : NetStands before) (goes : NetGoes before after) where
  -- ---- the nodes

  parser_is : (p : ℕ) → p < before.shape.parsers → IsParserOf after p (parser_at after p)
  parser_is p less =
      let was = now.parsers p less in
      let step = (goes.parsers p less).0 in
      let links : length (parser_at after p).outs.links ≡ length (parser_at before p).outs.links = step.outs.as_many in
      let groupers : after.shape.groupers ≡ before.shape.groupers = ap (λ shape. shape.groupers) goes.same.1 in
      let outs : length (parser_at before p).outs.links ≡ before.shape.groupers + 1 = was.outs in
      record {
        job = step.same.0 ∙ was.job ∙ sym goes.same.0;
        me = step.same.1 ∙ was.me;
        parsers = step.same.2 ∙ was.parsers ∙ sym (ap (λ shape. shape.parsers) goes.same.1);
        credits = step.same.3 ∙ was.credits ∙ sym goes.same.2;
        outs = omega arith;
        stands = (goes.parsers p less).1;
      }

  grouper_is : (g : ℕ) → g < before.shape.groupers → IsGrouperOf after g (grouper_at after g)
  grouper_is g less =
      let was = now.groupers g less in
      let step = (goes.groupers g less).0 in
      record {
        job = step.same.0 ∙ was.job ∙ sym goes.same.0;
        me = step.same.1 ∙ was.me;
        groupers = step.same.2 ∙ was.groupers ∙ sym (ap (λ shape. shape.groupers) goes.same.1);
        credits = step.same.3 ∙ was.credits ∙ sym goes.same.2;
        ins = step.ins.as_many ∙ was.ins ∙ sym (ap (λ shape. shape.parsers) goes.same.1);
        outs = step.outs.as_many ∙ was.outs ∙ sym (ap (λ shape. shape.processors) goes.same.1);
        stands = (goes.groupers g less).1;
      }

  processor_is : (q : ℕ) → q < before.shape.processors → IsProcessorOf after (processor_at after q)
  processor_is q less =
      let was = now.processors q less in
      let step = (goes.processors q less).0 in
      record {
        job = step.same.0 ∙ was.job ∙ sym goes.same.0;
        credits = step.same.1 ∙ was.credits ∙ sym goes.same.2;
        ins = step.ins.as_many ∙ was.ins ∙ sym (ap (λ shape. shape.groupers) goes.same.1);
        stands = (goes.processors q less).1;
      }

  merge_is : IsMergeOf after after.merge
  merge_is =
      let was = now.merge in
      let step = goes.merge.0 in
      let count : length after.merge.ins ≡ length before.merge.ins = step.ins.as_many in
      let ins : length before.merge.ins ≡ before.shape.parsers + before.shape.processors = was.ins in
      let parsers : after.shape.parsers ≡ before.shape.parsers = ap (λ shape. shape.parsers) goes.same.1 in
      let processors : after.shape.processors ≡ before.shape.processors = ap (λ shape. shape.processors) goes.same.1 in
      record {
        job = step.same.0 ∙ was.job ∙ sym goes.same.0;
        parsers = step.same.1 ∙ was.parsers ∙ sym parsers;
        credits = step.same.2 ∙ was.credits ∙ sym goes.same.2;
        ins = omega arith;
        stands = goes.merge.1;
      }

  -- ---- the limits

  parsers_same : after.shape.parsers ≡ before.shape.parsers
  parsers_same = ap (λ shape. shape.parsers) goes.same.1

  groupers_same : after.shape.groupers ≡ before.shape.groupers
  groupers_same = ap (λ shape. shape.groupers) goes.same.1

  few_captures : length after.job.captures ≤ 64
  few_captures =
      let first = parser_is 0 now.shape_is.parsers in
      subst (λ job. length job.captures ≤ 64) first.job first.stands.job_is.captures.1

  few_parsers : after.shape.parsers ≤ 16
  few_parsers =
      let first = parser_is 0 now.shape_is.parsers in
      subst (λ (n : ℕ). n ≤ 16) first.parsers first.stands.place.1

  few_groupers : after.shape.groupers ≤ 16
  few_groupers =
      let first = grouper_is 0 now.shape_is.groupers in
      subst (λ (n : ℕ). n ≤ 16) first.groupers first.stands.place.1

  -- ---- the links, downwards

  to_grouper : (p g : ℕ) → p < before.shape.parsers → g < before.shape.groupers
      → AreEnds before.credits (tx_at (parser_at after p).outs.links g) (rx_at (grouper_at after g).ins p)
  to_grouper p g hp hg =
      let was = now.parsers p hp in
      let taker = now.groupers g hg in
      let is = parser_is p hp in
      let to = grouper_is g hg in
      let outs_before : length (parser_at before p).outs.links ≡ before.shape.groupers + 1 = was.outs in
      let outs_after : length (parser_at after p).outs.links ≡ after.shape.groupers + 1 = is.outs in
      let same = groupers_same in
      let out_before : g < length (parser_at before p).outs.links = omega arith in
      let out_after : g < length (parser_at after p).outs.links = omega arith in
      let in_before : p < length (grouper_at before g).ins = subst (λ (n : ℕ). p < n) (sym taker.ins) hp in
      let in_after : p < length (grouper_at after g).ins = subst (λ (n : ℕ). p < n) (sym (to.ins ∙ parsers_same)) hp in
      ends_go before.credits (tx_at (parser_at before p).outs.links g) (tx_at (parser_at after p).outs.links g) (rx_at (grouper_at before g).ins p) (rx_at (grouper_at after g).ins p)
      (now.links.to_grouper p g hp hg) ((goes.parsers p hp).0.outs.each g no_tx out_before) ((goes.groupers g hg).0.ins.each p no_rx in_before)
      (is.stands.outs.holds.stand g no_tx out_after) (to.stands.ins.stand p no_rx in_after)
      (parser_counted after (length after.job.captures) refl few_captures few_parsers few_groupers p g (parser_at after p) is out_after)
      (goes.to_grouper p g hp hg)

  to_merge : (p : ℕ) → p < before.shape.parsers → AreEnds before.credits (tx_at (parser_at after p).outs.links before.shape.groupers) (rx_at after.merge.ins p)
  to_merge p hp =
      let was = now.parsers p hp in
      let is = parser_is p hp in
      let g : ℕ = before.shape.groupers in
      let outs_before : length (parser_at before p).outs.links ≡ before.shape.groupers + 1 = was.outs in
      let outs_after : length (parser_at after p).outs.links ≡ after.shape.groupers + 1 = is.outs in
      let same = groupers_same in
      let out_before : before.shape.groupers < length (parser_at before p).outs.links = omega arith in
      let out_after : before.shape.groupers < length (parser_at after p).outs.links = omega arith in
      let ins_before : length before.merge.ins ≡ before.shape.parsers + before.shape.processors = now.merge.ins in
      let many : length after.merge.ins ≡ length before.merge.ins = goes.merge.0.ins.as_many in
      let in_before : p < length before.merge.ins = omega arith in
      let in_after : p < length after.merge.ins = omega arith in
      ends_go before.credits (tx_at (parser_at before p).outs.links before.shape.groupers) (tx_at (parser_at after p).outs.links before.shape.groupers) (rx_at before.merge.ins p) (rx_at after.merge.ins p)
      (now.links.to_merge p hp) ((goes.parsers p hp).0.outs.each before.shape.groupers no_tx out_before) (goes.merge.0.ins.each p no_rx in_before)
      (is.stands.outs.holds.stand before.shape.groupers no_tx out_after) (goes.merge.1.ins.stand p no_rx in_after)
      (parser_counted after (length after.job.captures) refl few_captures few_parsers few_groupers p before.shape.groupers (parser_at after p) is out_after)
      (goes.to_merge p hp)

  -- what a grouper has taken on each link
  grouper_given : (g p : ℕ) → g < before.shape.groupers → p < after.shape.parsers → length (rx_at (grouper_at after g).ins p).given ≤ parser_frames (length after.job.captures)
  grouper_given g p hg less =
      let hp : p < before.shape.parsers = subst (λ (n : ℕ). p < n) parsers_same less in
      let is = parser_is p hp in
      let outs_after : length (parser_at after p).outs.links ≡ after.shape.groupers + 1 = is.outs in
      let same = groupers_same in
      let out_after : g < length (parser_at after p).outs.links = omega arith in
      le_trans (front_length (rx_at (grouper_at after g).ins p).given (tx_at (parser_at after p).outs.links g).offered (to_grouper p g hp hg).front)
      (parser_offers after (length after.job.captures) refl few_captures few_parsers few_groupers p g (parser_at after p) is out_after)

  to_processor : (g q : ℕ) → g < before.shape.groupers → q < before.shape.processors
      → AreEnds before.credits (tx_at (grouper_at after g).outs.links q) (rx_at (processor_at after q).ins g)
  to_processor g q hg hq =
      let was = now.groupers g hg in
      let taker = now.processors q hq in
      let is = grouper_is g hg in
      let to = processor_is q hq in
      let out_before : q < length (grouper_at before g).outs.links = subst (λ (n : ℕ). q < n) (sym was.outs) hq in
      let out_after : q < length (grouper_at after g).outs.links = subst (λ (n : ℕ). q < n) (sym (goes.groupers g hg).0.outs.as_many) out_before in
      let in_before : g < length (processor_at before q).ins = subst (λ (n : ℕ). g < n) (sym taker.ins) hg in
      let in_after : g < length (processor_at after q).ins = subst (λ (n : ℕ). g < n) (sym (goes.processors q hq).0.ins.as_many) in_before in
      ends_go before.credits (tx_at (grouper_at before g).outs.links q) (tx_at (grouper_at after g).outs.links q) (rx_at (processor_at before q).ins g) (rx_at (processor_at after q).ins g)
      (now.links.to_processor g q hg hq) ((goes.groupers g hg).0.outs.each q no_tx out_before) ((goes.processors q hq).0.ins.each g no_rx in_before)
      (is.stands.outs.holds.stand q no_tx out_after) (to.stands.ins.stand g no_rx in_after)
      (grouper_counted after (length after.job.captures) refl few_captures few_parsers few_groupers g q (grouper_at after g) is out_after (λ p less. grouper_given g p hg less))
      (goes.to_processor g q hg hq)

  -- what a processor has taken on each link
  processor_given : (q g : ℕ) → q < before.shape.processors → g < after.shape.groupers
      → length (rx_at (processor_at after q).ins g).given ≤ grouper_frames (length after.job.captures) after.shape.parsers
  processor_given q g hq less =
      let hg : g < before.shape.groupers = subst (λ (n : ℕ). g < n) groupers_same less in
      let is = grouper_is g hg in
      let out_before : q < length (grouper_at before g).outs.links = subst (λ (n : ℕ). q < n) (sym (now.groupers g hg).outs) hq in
      let out_after : q < length (grouper_at after g).outs.links = subst (λ (n : ℕ). q < n) (sym (goes.groupers g hg).0.outs.as_many) out_before in
      le_trans (front_length (rx_at (processor_at after q).ins g).given (tx_at (grouper_at after g).outs.links q).offered (to_processor g q hg hq).front)
      (grouper_offers after (length after.job.captures) refl few_captures few_parsers few_groupers g q (grouper_at after g) is out_after (λ p within. grouper_given g p hg within))

  from_processor : (q : ℕ) → q < before.shape.processors → AreEnds before.credits (tx_at (processor_at after q).outs.links 0) (rx_at after.merge.ins (before.shape.parsers + q))
  from_processor q hq =
      let was = now.processors q hq in
      let is = processor_is q hq in
      let one : length (processor_at before q).outs.links ≡ 1 = was.stands.one_out in
      let one_after : length (processor_at after q).outs.links ≡ 1 = is.stands.one_out in
      let out_before : 0 < length (processor_at before q).outs.links = omega arith in
      let out_after : 0 < length (processor_at after q).outs.links = omega arith in
      let ins_before : length before.merge.ins ≡ before.shape.parsers + before.shape.processors = now.merge.ins in
      let many : length after.merge.ins ≡ length before.merge.ins = goes.merge.0.ins.as_many in
      let in_before : before.shape.parsers + q < length before.merge.ins = omega arith in
      let in_after : before.shape.parsers + q < length after.merge.ins = omega arith in
      ends_go before.credits (tx_at (processor_at before q).outs.links 0) (tx_at (processor_at after q).outs.links 0) (rx_at before.merge.ins (before.shape.parsers + q)) (rx_at after.merge.ins (before.shape.parsers + q))
      (now.links.from_processor q hq) ((goes.processors q hq).0.outs.each 0 no_tx out_before) (goes.merge.0.ins.each (before.shape.parsers + q) no_rx in_before)
      (is.stands.outs.holds.stand 0 no_tx out_after) (goes.merge.1.ins.stand (before.shape.parsers + q) no_rx in_after)
      (processor_counted after (length after.job.captures) refl few_captures few_parsers few_groupers (processor_at after q) is (λ g less. processor_given q g hq less))
      (goes.from_processor q hq)

  -- ---- all of it, by the shape as it was

  abbrev Linked : (parsers groupers processors credits : ℕ) → Type 0
  Linked parsers groupers processors credits =
      ((p g : ℕ) → p < parsers → g < groupers → AreEnds credits (tx_at (parser_at after p).outs.links g) (rx_at (grouper_at after g).ins p))
      × ((p : ℕ) → p < parsers → AreEnds credits (tx_at (parser_at after p).outs.links groupers) (rx_at after.merge.ins p))
      × ((g q : ℕ) → g < groupers → q < processors → AreEnds credits (tx_at (grouper_at after g).outs.links q) (rx_at (processor_at after q).ins g))
      × ((q : ℕ) → q < processors → AreEnds credits (tx_at (processor_at after q).outs.links 0) (rx_at after.merge.ins (parsers + q)))

  linked : Linked after.shape.parsers after.shape.groupers after.shape.processors after.credits
  linked =
      subst (λ (c : ℕ). Linked after.shape.parsers after.shape.groupers after.shape.processors c) (sym goes.same.2)
      (subst (λ shape. Linked shape.parsers shape.groupers shape.processors before.credits) (sym goes.same.1) (to_grouper, to_merge, to_processor, from_processor))

  less_as : (n m i : ℕ) → n ≡ m → i < n → i < m
  less_as n m i same less = omega arith

  stands_on : NetStands after
  stands_on =
      let processors_same : after.shape.processors ≡ before.shape.processors = ap (λ shape. shape.processors) goes.same.1 in
      record {
        shape_is = subst (λ shape. Rattle.run_law.specs.Shapes.IsShape shape) (sym goes.same.1) now.shape_is;
        parser_count = goes.counts.0 ∙ now.parser_count ∙ sym parsers_same;
        grouper_count = goes.counts.1 ∙ now.grouper_count ∙ sym groupers_same;
        processor_count = goes.counts.2 ∙ now.processor_count ∙ sym processors_same;
        parsers = λ p less. parser_is p (less_as after.shape.parsers before.shape.parsers p parsers_same less);
        groupers = λ g less. grouper_is g (less_as after.shape.groupers before.shape.groupers g groupers_same less);
        processors = λ q less. processor_is q (less_as after.shape.processors before.shape.processors q processors_same less);
        merge = merge_is;
        links = record { to_grouper = linked.0; to_merge = linked.1; to_processor = linked.2; from_processor = linked.3 };
      }

pub net_goes_on : NetGoesOn
net_goes_on before after now goes = stands_on before after now goes
