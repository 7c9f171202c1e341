-- Looks at nodes: none, one after another, and what they leave as it was.
use Rattle.std.proofs.Common.{ℕ, ◌≡◌, ◌<◌, ◌+◌, inl, refl, sym, ap, ◌∙◌, subst, arith}
use Rattle.credit_link.specs.Ends.{TxSeen, RxSeen}
use Rattle.shuffle_poll.specs.Shuffles.{ShuffleSeen}
use Rattle.byte_rings.specs.Rings.{PipeName}
use Rattle.run_law.specs.Shapes.{Shape, IsShape}
use Rattle.node_lanes.specs.Ends.{TxGoes, RxGoes}
use Rattle.net_law.specs.Parsers.{ParserSeen, ParserStands, ParserGoes}
use Rattle.net_law.specs.Groupers.{GrouperSeen, GrouperStands, GrouperGoes}
use Rattle.net_law.specs.Processors.{ProcessorSeen, ProcessorStands, ProcessorGoes}
use Rattle.net_law.specs.Merges.{MergeSeen, MergeStands, MergeGoes}
use Rattle.net_law.specs.Ends.{no_tx, no_rx, tx_at, rx_at}
use Rattle.net_law.specs.Nets.{Net, NetStands, AreEnds, parser_at, grouper_at, processor_at}
use Rattle.net_law.specs.Steps.{TxLooked, OutsLooked, ParserLooked, GrouperLooked, ProcessorLooked, MergeLooked, NetGoes}
use Rattle.net_law.specs.Turned.{IsAlike}
use Rattle.net_law.proofs.Going.{parser_looked, grouper_looked, processor_looked, merge_looked}
use Rattle.net_law.proofs.Steps.{net_goes_on}
use Rattle.pipeline_looks.proofs.Ends.{looks_on, outs_same, ins_same, ins_on}
use Rattle.pipeline_looks.specs.Links.{AreOnRings}
use Rattle.pipeline_nodes.specs.Looks.{StandsApart}
use Rattle.run_rounds.specs.Faults.{fault_at}
use Rattle.run_rounds.specs.Looked.{NodesLooked}
use Rattle.pipeline_nodes.proofs.Numbers.{faults_are, faults_after, by_number}

-- ---- one node

tx_on : (a b c : TxSeen) → TxLooked a b → TxLooked b c → TxLooked a c
tx_on a b c f g = record {
  same = g.same ∙ ap (λ (l : TxSeen). record l { forth = c.forth; back = c.back }) f.same;
  forth = looks_on a.forth b.forth c.forth f.forth g.forth;
  back = looks_on a.back b.back c.back f.back g.back;
}

outs_on : (a b c : ShuffleSeen) → OutsLooked a b → OutsLooked b c → OutsLooked a c
outs_on a b c f g = record {
  as_many = g.as_many ∙ f.as_many;
  queues = g.queues ∙ f.queues;
  each = λ k. tx_on (tx_at a.links k) (tx_at b.links k) (tx_at c.links k) (f.each k) (g.each k);
}

pub parser_unseen : (s : ParserSeen) → ParserStands s → ParserLooked s s
parser_unseen s stands = record { same = refl; outs = outs_same s.outs; stands = stands }

pub parser_on : (a b c : ParserSeen) → ParserLooked a b → ParserLooked b c → ParserLooked a c
parser_on a b c f g = record { same = g.same ∙ ap (λ (s : ParserSeen). record s { outs = c.outs }) f.same; outs = outs_on a.outs b.outs c.outs f.outs g.outs; stands = g.stands }

pub grouper_unseen : (s : GrouperSeen) → GrouperStands s → GrouperLooked s s
grouper_unseen s stands = record { same = refl; ins = ins_same s.ins; outs = outs_same s.outs; stands = stands }

pub grouper_on : (a b c : GrouperSeen) → GrouperLooked a b → GrouperLooked b c → GrouperLooked a c
grouper_on a b c f g = record {
  same = g.same ∙ ap (λ (s : GrouperSeen). record s { ins = c.ins; outs = c.outs }) f.same;
  ins = ins_on a.ins b.ins c.ins f.ins g.ins;
  outs = outs_on a.outs b.outs c.outs f.outs g.outs;
  stands = g.stands;
}

pub processor_unseen : (s : ProcessorSeen) → ProcessorStands s → ProcessorLooked s s
processor_unseen s stands = record { same = refl; ins = ins_same s.ins; outs = outs_same s.outs; stands = stands }

pub processor_on : (a b c : ProcessorSeen) → ProcessorLooked a b → ProcessorLooked b c → ProcessorLooked a c
processor_on a b c f g = record {
  same = g.same ∙ ap (λ (s : ProcessorSeen). record s { ins = c.ins; outs = c.outs }) f.same;
  ins = ins_on a.ins b.ins c.ins f.ins g.ins;
  outs = outs_on a.outs b.outs c.outs f.outs g.outs;
  stands = g.stands;
}

pub merge_unseen : (s : MergeSeen) → MergeStands s → MergeLooked s s
merge_unseen s stands = record { same = refl; ins = ins_same s.ins; stands = stands }

pub merge_on : (a b c : MergeSeen) → MergeLooked a b → MergeLooked b c → MergeLooked a c
merge_on a b c f g = record { same = g.same ∙ ap (λ (s : MergeSeen). record s { ins = c.ins }) f.same; ins = ins_on a.ins b.ins c.ins f.ins g.ins; stands = g.stands }

-- a node that is the same, or was looked at
pub parser_left : (a b : ParserSeen) → b ≡ a → ParserStands a → ParserLooked a b
parser_left a b same stands = subst (ParserLooked a) (sym same) (parser_unseen a stands)

pub grouper_left : (a b : GrouperSeen) → b ≡ a → GrouperStands a → GrouperLooked a b
grouper_left a b same stands = subst (GrouperLooked a) (sym same) (grouper_unseen a stands)

pub processor_left : (a b : ProcessorSeen) → b ≡ a → ProcessorStands a → ProcessorLooked a b
processor_left a b same stands = subst (ProcessorLooked a) (sym same) (processor_unseen a stands)

pub merge_left : (a b : MergeSeen) → b ≡ a → MergeStands a → MergeLooked a b
merge_left a b same stands = subst (MergeLooked a) (sym same) (merge_unseen a stands)

-- ---- all nodes

pub alike_self : (net : Net) → IsAlike net net
alike_self net = record { same = (refl, refl, refl); counts = (refl, refl, refl) }

pub alike_on : (a b c : Net) → IsAlike a b → IsAlike b c → IsAlike a c
alike_on a b c f g = record {
  same = (g.same.0 ∙ f.same.0, g.same.1 ∙ f.same.1, g.same.2 ∙ f.same.2);
  counts = (g.counts.0 ∙ f.counts.0, g.counts.1 ∙ f.counts.1, g.counts.2 ∙ f.counts.2);
}

pub nodes_unseen : (net : Net) → StandsApart net → NodesLooked net net
nodes_unseen net now = record {
  alike = alike_self net;
  parsers = λ p less. parser_unseen (parser_at net p) (now.parsers p less).stands;
  groupers = λ g less. grouper_unseen (grouper_at net g) (now.groupers g less).stands;
  processors = λ q less. processor_unseen (processor_at net q) (now.processors q less).stands;
  merge = merge_unseen net.merge now.merge.stands;
}

pub nodes_on : (a b c : Net) → NodesLooked a b → NodesLooked b c → NodesLooked a c
nodes_on a b c f g = record {
  alike = alike_on a b c f.alike g.alike;
  parsers = λ p less. parser_on (parser_at a p) (parser_at b p) (parser_at c p) (f.parsers p less) (g.parsers p (subst (λ (s : Shape). p < s.parsers) (sym f.alike.same.1) less));
  groupers = λ i less. grouper_on (grouper_at a i) (grouper_at b i) (grouper_at c i) (f.groupers i less) (g.groupers i (subst (λ (s : Shape). i < s.groupers) (sym f.alike.same.1) less));
  processors = λ q less.
      processor_on (processor_at a q) (processor_at b q) (processor_at c q) (f.processors q less) (g.processors q (subst (λ (s : Shape). q < s.processors) (sym f.alike.same.1) less));
  merge = merge_on a.merge b.merge c.merge f.merge g.merge;
}

-- ---- nodes that stand apart

on_rings : (number : ℕ) (tx : TxSeen) (rx : RxSeen) → AreEnds number tx rx → AreOnRings number tx rx
on_rings number tx rx ends = record { one = ends.one; data_places = ends.data_places; credit_places = ends.credit_places }

pub apart : (net : Net) → NetStands net → StandsApart net
apart net now = record {
  shape_is = now.shape_is;
  parser_count = now.parser_count;
  grouper_count = now.grouper_count;
  processor_count = now.processor_count;
  parsers = now.parsers;
  groupers = now.groupers;
  processors = now.processors;
  merge = now.merge;
  links = record {
    to_grouper = λ p g hp hg. on_rings net.credits (tx_at (parser_at net p).outs.links g) (rx_at (grouper_at net g).ins p) (now.links.to_grouper p g hp hg);
    to_merge = λ p hp. on_rings net.credits (tx_at (parser_at net p).outs.links net.shape.groupers) (rx_at net.merge.ins p) (now.links.to_merge p hp);
    to_processor = λ g q hg hq. on_rings net.credits (tx_at (grouper_at net g).outs.links q) (rx_at (processor_at net q).ins g) (now.links.to_processor g q hg hq);
    from_processor = λ q hq. on_rings net.credits (tx_at (processor_at net q).outs.links 0) (rx_at net.merge.ins (net.shape.parsers + q)) (now.links.from_processor q hq);
  };
}

rings_on : (n n' : ℕ) (tx tx' : TxSeen) (rx rx' : RxSeen) → n' ≡ n → TxGoes tx tx' → RxGoes rx rx' → AreOnRings n tx rx → AreOnRings n' tx' rx'
rings_on n n' tx tx' rx rx' number sender receiver rings =
    subst (λ (k : ℕ). AreOnRings k tx' rx') (sym number) (record {
      one = (receiver.names.0 ∙ rings.one.0 ∙ sym sender.names.0, receiver.names.1 ∙ rings.one.1 ∙ sym sender.names.1);
      data_places = ap (λ (x : PipeName). x.capacity) sender.names.0 ∙ rings.data_places;
      credit_places = ap (λ (x : PipeName). x.capacity) sender.names.1 ∙ rings.credit_places;
    })

-- nodes that go on, and stand, stand apart
module _ (a b : Net) (now : StandsApart a) (alike : IsAlike a b)
    (parsers : (p : ℕ) → p < a.shape.parsers → ParserGoes (parser_at a p) (parser_at b p) × ParserStands (parser_at b p))
    (groupers : (g : ℕ) → g < a.shape.groupers → GrouperGoes (grouper_at a g) (grouper_at b g) × GrouperStands (grouper_at b g))
    (processors : (q : ℕ) → q < a.shape.processors → ProcessorGoes (processor_at a q) (processor_at b q) × ProcessorStands (processor_at b q))
    (merge : MergeGoes a.merge b.merge × MergeStands b.merge) where
  shape_same : b.shape ≡ a.shape
  shape_same = alike.same.1

  there_p : (p : ℕ) → p < b.shape.parsers → p < a.shape.parsers
  there_p p less = subst (λ (s : Shape). p < s.parsers) shape_same less

  there_g : (g : ℕ) → g < b.shape.groupers → g < a.shape.groupers
  there_g g less = subst (λ (s : Shape). g < s.groupers) shape_same less

  there_q : (q : ℕ) → q < b.shape.processors → q < a.shape.processors
  there_q q less = subst (λ (s : Shape). q < s.processors) shape_same less

  parser_tx : (p : ℕ) → p < a.shape.parsers → (k : ℕ) → k < a.shape.groupers + 1 → TxGoes (tx_at (parser_at a p).outs.links k) (tx_at (parser_at b p).outs.links k)
  parser_tx p hp k less = (parsers p hp).0.outs.each k no_tx (subst (λ (n : ℕ). k < n) (sym (now.parsers p hp).outs) less)

  grouper_tx : (g : ℕ) → g < a.shape.groupers → (k : ℕ) → k < a.shape.processors → TxGoes (tx_at (grouper_at a g).outs.links k) (tx_at (grouper_at b g).outs.links k)
  grouper_tx g hg k less = (groupers g hg).0.outs.each k no_tx (subst (λ (n : ℕ). k < n) (sym (now.groupers g hg).outs) less)

  merge_rx : (j : ℕ) → j < a.shape.parsers + a.shape.processors → RxGoes (rx_at a.merge.ins j) (rx_at b.merge.ins j)
  merge_rx j less = merge.0.ins.each j no_rx (subst (λ (n : ℕ). j < n) (sym now.merge.ins) less)

  pub apart_on : StandsApart b
  apart_on = record {
    shape_is = subst IsShape (sym shape_same) now.shape_is;
    parser_count = alike.counts.0 ∙ now.parser_count ∙ ap (λ (s : Shape). s.parsers) (sym shape_same);
    grouper_count = alike.counts.1 ∙ now.grouper_count ∙ ap (λ (s : Shape). s.groupers) (sym shape_same);
    processor_count = alike.counts.2 ∙ now.processor_count ∙ ap (λ (s : Shape). s.processors) (sym shape_same);
    parsers = λ p less.
        let was = now.parsers p (there_p p less) in
        let goes = parsers p (there_p p less) in
        record {
          job = goes.0.same.0 ∙ was.job ∙ sym alike.same.0;
          me = goes.0.same.1 ∙ was.me;
          parsers = goes.0.same.2 ∙ was.parsers ∙ ap (λ (s : Shape). s.parsers) (sym shape_same);
          credits = goes.0.same.3 ∙ was.credits ∙ sym alike.same.2;
          outs = goes.0.outs.as_many ∙ was.outs ∙ ap (λ (s : Shape). s.groupers + 1) (sym shape_same);
          stands = goes.1;
        };
    groupers = λ g less.
        let was = now.groupers g (there_g g less) in
        let goes = groupers g (there_g g less) in
        record {
          job = goes.0.same.0 ∙ was.job ∙ sym alike.same.0;
          me = goes.0.same.1 ∙ was.me;
          groupers = goes.0.same.2 ∙ was.groupers ∙ ap (λ (s : Shape). s.groupers) (sym shape_same);
          credits = goes.0.same.3 ∙ was.credits ∙ sym alike.same.2;
          ins = goes.0.ins.as_many ∙ was.ins ∙ ap (λ (s : Shape). s.parsers) (sym shape_same);
          outs = goes.0.outs.as_many ∙ was.outs ∙ ap (λ (s : Shape). s.processors) (sym shape_same);
          stands = goes.1;
        };
    processors = λ q less.
        let was = now.processors q (there_q q less) in
        let goes = processors q (there_q q less) in
        record {
          job = goes.0.same.0 ∙ was.job ∙ sym alike.same.0;
          credits = goes.0.same.1 ∙ was.credits ∙ sym alike.same.2;
          ins = goes.0.ins.as_many ∙ was.ins ∙ ap (λ (s : Shape). s.groupers) (sym shape_same);
          stands = goes.1;
        };
    merge = record {
      job = merge.0.same.0 ∙ now.merge.job ∙ sym alike.same.0;
      parsers = merge.0.same.1 ∙ now.merge.parsers ∙ ap (λ (s : Shape). s.parsers) (sym shape_same);
      credits = merge.0.same.2 ∙ now.merge.credits ∙ sym alike.same.2;
      ins = merge.0.ins.as_many ∙ now.merge.ins ∙ ap (λ (s : Shape). s.parsers + s.processors) (sym shape_same);
      stands = merge.1;
    };
    links = record {
      to_grouper = λ p g hp hg.
          let pa : p < a.shape.parsers = there_p p hp in
          let ga : g < a.shape.groupers = there_g g hg in
          rings_on a.credits b.credits (tx_at (parser_at a p).outs.links g) (tx_at (parser_at b p).outs.links g) (rx_at (grouper_at a g).ins p) (rx_at (grouper_at b g).ins p) alike.same.2
          (parser_tx p pa g (omega (arith, ga))) ((groupers g ga).0.ins.each p no_rx (subst (λ (n : ℕ). p < n) (sym (now.groupers g ga).ins) pa)) (now.links.to_grouper p g pa ga);
      to_merge = λ p hp.
          let pa : p < a.shape.parsers = there_p p hp in
          subst (λ (s : Shape). AreOnRings b.credits (tx_at (parser_at b p).outs.links s.groupers) (rx_at b.merge.ins p)) (sym shape_same)
          (rings_on a.credits b.credits (tx_at (parser_at a p).outs.links a.shape.groupers) (tx_at (parser_at b p).outs.links a.shape.groupers) (rx_at a.merge.ins p) (rx_at b.merge.ins p) alike.same.2
          (parser_tx p pa a.shape.groupers (omega arith)) (merge_rx p (omega (arith, pa))) (now.links.to_merge p pa));
      to_processor = λ g q hg hq.
          let ga : g < a.shape.groupers = there_g g hg in
          let qa : q < a.shape.processors = there_q q hq in
          rings_on a.credits b.credits (tx_at (grouper_at a g).outs.links q) (tx_at (grouper_at b g).outs.links q) (rx_at (processor_at a q).ins g) (rx_at (processor_at b q).ins g) alike.same.2
          (grouper_tx g ga q qa) ((processors q qa).0.ins.each g no_rx (subst (λ (n : ℕ). g < n) (sym (now.processors q qa).ins) ga)) (now.links.to_processor g q ga qa);
      from_processor = λ q hq.
          let qa : q < a.shape.processors = there_q q hq in
          subst (λ (s : Shape). AreOnRings b.credits (tx_at (processor_at b q).outs.links 0) (rx_at b.merge.ins (s.parsers + q))) (sym shape_same)
          (rings_on a.credits b.credits (tx_at (processor_at a q).outs.links 0) (tx_at (processor_at b q).outs.links 0) (rx_at a.merge.ins (a.shape.parsers + q)) (rx_at b.merge.ins (a.shape.parsers + q)) alike.same.2
          ((processors q qa).0.outs.each 0 no_tx (subst (λ (n : ℕ). 0 < n) (sym (now.processors q qa).stands.one_out) (omega arith))) (merge_rx (a.shape.parsers + q) (omega (arith, qa))) (now.links.from_processor q qa));
    };
  }

pub looked_apart : (a b : Net) → StandsApart a → NodesLooked a b → StandsApart b
looked_apart a b now looks =
    apart_on a b now looks.alike
    (λ p less. (parser_looked (parser_at a p) (parser_at b p) (looks.parsers p less), (looks.parsers p less).stands))
    (λ g less. (grouper_looked (grouper_at a g) (grouper_at b g) (looks.groupers g less), (looks.groupers g less).stands))
    (λ q less. (processor_looked (processor_at a q) (processor_at b q) (looks.processors q less), (looks.processors q less).stands))
    (merge_looked a.merge b.merge looks.merge, looks.merge.stands)

-- a look takes no frame
pub looked_goes : (a b : Net) → NodesLooked a b → NetGoes a b
looked_goes a b looks = record {
  same = looks.alike.same;
  counts = looks.alike.counts;
  parsers = λ p less. (parser_looked (parser_at a p) (parser_at b p) (looks.parsers p less), (looks.parsers p less).stands);
  groupers = λ g less. (grouper_looked (grouper_at a g) (grouper_at b g) (looks.groupers g less), (looks.groupers g less).stands);
  processors = λ q less. (processor_looked (processor_at a q) (processor_at b q) (looks.processors q less), (looks.processors q less).stands);
  merge = (merge_looked a.merge b.merge looks.merge, looks.merge.stands);
  to_grouper = λ p g hp hg. inl (ap (λ (r : RxSeen). r.given) ((looks.groupers g hg).ins.each p).same);
  to_merge = λ p hp. inl (ap (λ (r : RxSeen). r.given) (looks.merge.ins.each p).same);
  to_processor = λ g q hg hq. inl (ap (λ (r : RxSeen). r.given) ((looks.processors q hq).ins.each g).same);
  from_processor = λ q hq. inl (ap (λ (r : RxSeen). r.given) (looks.merge.ins.each (a.shape.parsers + q)).same);
}

pub looked_stands : (a b : Net) → NetStands a → NodesLooked a b → NetStands b
looked_stands a b now looks = net_goes_on a b now (looked_goes a b looks)

-- and each node has the fault that it had
pub looked_faults : (a b : Net) → NetStands a → NodesLooked a b → (n : ℕ) → fault_at b n ≡ fault_at a n
looked_faults a b now looks n =
    let was = faults_are a now in
    let is = faults_after a b looks.alike (looked_stands a b now looks) in
    by_number (λ (m : ℕ). fault_at b m ≡ fault_at a m) a.shape.parsers a.shape.groupers a.shape.processors n
    (λ p less. is.parsers p less ∙ ap (λ (s : ParserSeen). s.fault) (looks.parsers p less).same ∙ sym (was.parsers p less))
    (λ g less. is.groupers g less ∙ ap (λ (s : GrouperSeen). s.fault) (looks.groupers g less).same ∙ sym (was.groupers g less))
    (λ q less. is.processors q less ∙ ap (λ (s : ProcessorSeen). s.fault) (looks.processors q less).same ∙ sym (was.processors q less))
    (is.merge ∙ ap (λ (s : MergeSeen). s.fault) looks.merge.same ∙ sym was.merge)
    (λ m behind. is.past m behind ∙ sym (was.past m behind))
