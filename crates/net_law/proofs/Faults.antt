-- No node of a pipeline meets a fault of a link.
use Rattle.std.proofs.Common.{ℕ, List, ◌≡◌, ◌<◌, ◌≤◌, ◌+◌, ◌-◌, inl, inr, length, refl, sym, ap, subst, ◌∙◌, ⊎_elim, arith}
use Rattle.std.proofs.lemmas.Bool.{cases_lt}
use Rattle.node_frames.specs.declared.frame.Frame.{Frame}
use Rattle.credit_link.specs.Ends.{TxSeen, RxSeen}
use Rattle.credit_link.specs.declared.link_bad.LinkBad.{LinkBad}
use Rattle.credit_link.specs.declared.turn.NodeFault.TheVariants.{Link}
use Rattle.run_law.specs.Links.{AreLawful, MayFollow, ItemRule, CountsRule, GroupRule, AnswerRule}
use Rattle.node_lanes.specs.Faults.{TxMeets, RxMeets}
use Rattle.net_law.specs.Parsers as pn
use Rattle.net_law.specs.Groupers as gn
use Rattle.net_law.specs.Processors as qn
use Rattle.net_law.specs.Merges as mn
use Rattle.net_law.specs.Ends.{no_tx, no_rx, tx_at, rx_at}
use Rattle.net_law.specs.Nets.{Net, NetStands, AreEnds, parser_at, grouper_at, processor_at}
use Rattle.net_law.specs.Pairs.{ArePair}
use Rattle.net_law.specs.Steps.{TxLooked, RxLooked, AreLooked, ParserLooked, GrouperLooked, ProcessorLooked, MergeLooked}
use Rattle.net_law.specs.Faults.{IsLookedAt, NoLinkFaultComes}
use Rattle.net_law.proofs.Meeting.{no_tx_fault, no_rx_fault, last_may_stand}
use Rattle.net_law.proofs.Moments.{by_same, grouper_shape, merge_shape}
use Rattle.net_law.proofs.Pairs.{each_stands, items_sent, counts_sent, groups_sent, answers_sent}
use Rattle.net_law.proofs.Steps.{looked_join}

-- ---- one link

tx_never : (number : ℕ) (before after seen : TxSeen) (rx : RxSeen) (bad : LinkBad) → AreEnds number seen rx → ArePair seen rx → AreLooked number seen rx → TxLooked after seen → ¬ TxMeets before after bad
tx_never number before after seen rx bad ends pair looked look = no_tx_fault number before after seen rx bad look looked ends.told pair.receiving pair.counted

rx_never : (Own : List Frame → Frame → Type 0) (number : ℕ) (before after seen : RxSeen) (tx : TxSeen) (bad : LinkBad) → AreEnds number tx seen → ArePair tx seen → AreLooked number tx seen
    → RxLooked after seen → AreLawful Own tx.offered → ¬ RxMeets (MayFollow Own) before after bad
rx_never Own number before after seen tx bad ends pair looked look lawful =
    no_rx_fault (MayFollow Own) number before after seen tx bad look looked (looked_join number tx seen pair.sending pair.receiving ends.told pair.counted looked)
    (λ frames frame front. last_may_stand Own tx.offered frames frame lawful front)

module _ (net : Net) (is : IsLookedAt net) where
  pairs : Rattle.net_law.specs.Nets.EachPair ArePair net
  pairs = each_stands net is.stands

  -- ---- parsers

  parser_never : (p link : ℕ) (bad : LinkBad) (before turned : pn.ParserSeen) → p < net.shape.parsers → pn.ParserGoes before turned → ParserLooked turned (parser_at net p)
      → ¬ pn.ParserMeets before turned (Link link bad)
  parser_never p link bad before turned hp goes look meets =
      let first : length turned.outs.links ≡ length before.outs.links = goes.outs.as_many in
      let second : length (parser_at net p).outs.links ≡ length turned.outs.links = look.outs.as_many in
      let third : length (parser_at net p).outs.links ≡ net.shape.groupers + 1 = (is.stands.parsers p hp).outs in
      let less : link < length before.outs.links = meets.0 in
      ⊎_elim
      (λ (early : link < net.shape.groupers).
      tx_never net.credits (tx_at before.outs.links link) (tx_at turned.outs.links link) (tx_at (parser_at net p).outs.links link) (rx_at (grouper_at net link).ins p) bad
      (is.stands.links.to_grouper p link hp early) (pairs.to_grouper p link hp early) (is.looked.to_grouper p link hp early) (look.outs.each link) (meets.1 no_tx))
      (λ (late : net.shape.groupers ≤ link).
      let same : net.shape.groupers ≡ link = omega arith in
      tx_never net.credits (tx_at before.outs.links net.shape.groupers) (tx_at turned.outs.links net.shape.groupers) (tx_at (parser_at net p).outs.links net.shape.groupers) (rx_at net.merge.ins p) bad
      (is.stands.links.to_merge p hp) (pairs.to_merge p hp) (is.looked.to_merge p hp) (look.outs.each net.shape.groupers)
      (subst (λ (k : ℕ). TxMeets (tx_at before.outs.links k) (tx_at turned.outs.links k) bad) (sym same) (meets.1 no_tx)))
      (cases_lt link net.shape.groupers)

  -- ---- groupers

  grouper_never : (g link : ℕ) (bad : LinkBad) (before turned : gn.GrouperSeen) → g < net.shape.groupers → gn.GrouperGoes before turned → GrouperLooked turned (grouper_at net g)
      → ¬ gn.GrouperMeets before turned (Link link bad)
  grouper_never g link bad before turned hg goes look (inl meets) =
      let node = is.stands.groupers g hg in
      let many : length (grouper_at net g).ins ≡ length before.ins = look.ins.as_many ∙ goes.ins.as_many in
      let long : length (grouper_at net g).ins ≡ net.shape.parsers = node.ins in
      let less : link < length before.ins = meets.0 in
      let hp : link < net.shape.parsers = omega arith in
      let job : before.job ≡ net.job = sym (ap (λ (s : gn.GrouperSeen). s.job) look.same ∙ goes.same.0) ∙ node.job in
      let me : before.me ≡ g = sym (ap (λ (s : gn.GrouperSeen). s.me) look.same ∙ goes.same.1) ∙ node.me in
      let groupers : (grouper_at net g).groupers ≡ before.groupers = ap (λ (s : gn.GrouperSeen). s.groupers) look.same ∙ goes.same.2 in
      let outs : length (grouper_at net g).outs.links ≡ length before.outs.links = look.outs.as_many ∙ goes.outs.as_many in
      let shape : gn.shape_of before ≡ net.shape =
      ap (λ (n : ℕ). record { parsers = n; groupers = before.groupers; processors = length before.outs.links }) (sym many)
      ∙ ap (λ (n : ℕ). record { parsers = length (grouper_at net g).ins; groupers = n; processors = length before.outs.links }) (sym groupers)
      ∙ ap (λ (n : ℕ). record { parsers = length (grouper_at net g).ins; groupers = (grouper_at net g).groupers; processors = n }) (sym outs)
      ∙ grouper_shape net g (grouper_at net g) node in
      rx_never (ItemRule net.job net.shape link g) net.credits (rx_at before.ins link) (rx_at turned.ins link) (rx_at (grouper_at net g).ins link) (tx_at (parser_at net link).outs.links g) bad
      (is.stands.links.to_grouper link g hp hg) (pairs.to_grouper link g hp hg) (is.looked.to_grouper link g hp hg) (look.ins.each link) (items_sent net is.stands link g hp hg)
      (by_same (λ j s m. RxMeets (MayFollow (ItemRule j s link m)) (rx_at before.ins link) (rx_at turned.ins link) bad) before.job net.job (gn.shape_of before) net.shape before.me g job shape me (meets.1 no_rx))
  grouper_never g link bad before turned hg goes look (inr meets) =
      let k : ℕ = meets.0 in
      let outs : length (grouper_at net g).outs.links ≡ length before.outs.links = look.outs.as_many ∙ goes.outs.as_many in
      let long : length (grouper_at net g).outs.links ≡ net.shape.processors = (is.stands.groupers g hg).outs in
      let less : meets.0 < length before.outs.links = meets.2 in
      let hq : meets.0 < net.shape.processors = omega arith in
      tx_never net.credits (tx_at before.outs.links meets.0) (tx_at turned.outs.links meets.0) (tx_at (grouper_at net g).outs.links meets.0) (rx_at (processor_at net meets.0).ins g) bad
      (is.stands.links.to_processor g meets.0 hg hq) (pairs.to_processor g meets.0 hg hq) (is.looked.to_processor g meets.0 hg hq) (look.outs.each meets.0) (meets.3 no_tx)

  -- ---- processors

  processor_never : (q link : ℕ) (bad : LinkBad) (before turned : qn.ProcessorSeen) → q < net.shape.processors → qn.ProcessorGoes before turned → ProcessorLooked turned (processor_at net q)
      → ¬ qn.ProcessorMeets before turned (Link link bad)
  processor_never q link bad before turned hq goes look (inl meets) =
      let node = is.stands.processors q hq in
      let many : length (processor_at net q).ins ≡ length before.ins = look.ins.as_many ∙ goes.ins.as_many in
      let long : length (processor_at net q).ins ≡ net.shape.groupers = node.ins in
      let less : link < length before.ins = meets.0 in
      let hg : link < net.shape.groupers = omega arith in
      let job : before.job ≡ net.job = sym (ap (λ (s : qn.ProcessorSeen). s.job) look.same ∙ goes.same.0) ∙ node.job in
      rx_never (GroupRule net.job) net.credits (rx_at before.ins link) (rx_at turned.ins link) (rx_at (processor_at net q).ins link) (tx_at (grouper_at net link).outs.links q) bad
      (is.stands.links.to_processor link q hg hq) (pairs.to_processor link q hg hq) (is.looked.to_processor link q hg hq) (look.ins.each link) (groups_sent net is.stands link q hg hq)
      (subst (λ j. RxMeets (MayFollow (GroupRule j)) (rx_at before.ins link) (rx_at turned.ins link) bad) job (meets.1 no_rx))
  processor_never q link bad before turned hq goes look (inr meets) =
      tx_never net.credits (tx_at before.outs.links 0) (tx_at turned.outs.links 0) (tx_at (processor_at net q).outs.links 0) (rx_at net.merge.ins (net.shape.parsers + q)) bad
      (is.stands.links.from_processor q hq) (pairs.from_processor q hq) (is.looked.from_processor q hq) (look.outs.each 0) (meets.1 no_tx)

  -- ---- the merge

  merge_job : (before turned : mn.MergeSeen) → mn.MergeGoes before turned → MergeLooked turned net.merge → before.job ≡ net.job
  merge_job before turned goes look = sym (ap (λ (s : mn.MergeSeen). s.job) look.same ∙ goes.same.0) ∙ is.stands.merge.job

  merge_parsers : (before turned : mn.MergeSeen) → mn.MergeGoes before turned → MergeLooked turned net.merge → before.parsers ≡ net.shape.parsers
  merge_parsers before turned goes look = sym (ap (λ (s : mn.MergeSeen). s.parsers) look.same ∙ goes.same.1) ∙ is.stands.merge.parsers

  merge_never : (link : ℕ) (bad : LinkBad) (before turned : mn.MergeSeen) → mn.MergeGoes before turned → MergeLooked turned net.merge → ¬ mn.MergeMeets before turned (Link link bad)
  merge_never link bad before turned goes look (inl meets) =
      let node = is.stands.merge in
      let parsers : before.parsers ≡ net.shape.parsers = merge_parsers before turned goes look in
      let hp : link < net.shape.parsers = subst (λ (n : ℕ). link < n) parsers meets.0 in
      let many : length net.merge.ins ≡ length before.ins = look.ins.as_many ∙ goes.ins.as_many in
      let before_is : net.merge.parsers ≡ before.parsers = ap (λ (s : mn.MergeSeen). s.parsers) look.same ∙ goes.same.1 in
      let processors : mn.processors_of before ≡ mn.processors_of net.merge = omega arith in
      let shape : mn.shape_with before net.shape.groupers ≡ net.shape =
      ap (λ (n : ℕ). record { parsers = n; groupers = net.shape.groupers; processors = mn.processors_of before }) (sym before_is)
      ∙ ap (λ (n : ℕ). record { parsers = net.merge.parsers; groupers = net.shape.groupers; processors = n }) processors
      ∙ merge_shape net net.merge node in
      rx_never (CountsRule net.job net.shape link) net.credits (rx_at before.ins link) (rx_at turned.ins link) (rx_at net.merge.ins link) (tx_at (parser_at net link).outs.links net.shape.groupers) bad
      (is.stands.links.to_merge link hp) (pairs.to_merge link hp) (is.looked.to_merge link hp) (look.ins.each link) (counts_sent net is.stands link hp)
      (by_same (λ j s m. RxMeets (MayFollow (CountsRule j s link)) (rx_at before.ins link) (rx_at turned.ins link) bad) before.job net.job (mn.shape_with before net.shape.groupers) net.shape 0 0
      (merge_job before turned goes look) shape refl (meets.1 net.shape.groupers no_rx))
  merge_never link bad before turned goes look (inr meets) =
      let node = is.stands.merge in
      let parsers : before.parsers ≡ net.shape.parsers = merge_parsers before turned goes look in
      let many : length net.merge.ins ≡ length before.ins = look.ins.as_many ∙ goes.ins.as_many in
      let long : length net.merge.ins ≡ net.shape.parsers + net.shape.processors = node.ins in
      let least : before.parsers ≤ link = meets.0 in
      let most : link < length before.ins = meets.1 in
      let hq : link - net.shape.parsers < net.shape.processors = omega arith in
      let place : link ≡ net.shape.parsers + (link - net.shape.parsers) = omega arith in
      rx_never (AnswerRule net.job) net.credits (rx_at before.ins (net.shape.parsers + (link - net.shape.parsers))) (rx_at turned.ins (net.shape.parsers + (link - net.shape.parsers)))
      (rx_at net.merge.ins (net.shape.parsers + (link - net.shape.parsers))) (tx_at (processor_at net (link - net.shape.parsers)).outs.links 0) bad
      (is.stands.links.from_processor (link - net.shape.parsers) hq) (pairs.from_processor (link - net.shape.parsers) hq) (is.looked.from_processor (link - net.shape.parsers) hq)
      (look.ins.each (net.shape.parsers + (link - net.shape.parsers))) (answers_sent net is.stands (link - net.shape.parsers) hq)
      (subst (λ (j : ℕ). RxMeets (MayFollow (AnswerRule net.job)) (rx_at before.ins j) (rx_at turned.ins j) bad) place
      (subst (λ job. RxMeets (MayFollow (AnswerRule job)) (rx_at before.ins link) (rx_at turned.ins link) bad) (merge_job before turned goes look) (meets.2 no_rx)))

pub no_link_fault_comes : NoLinkFaultComes
no_link_fault_comes net is = record { parser = parser_never net is; grouper = grouper_never net is; processor = processor_never net is; merge = merge_never net is }
