-- Turns and looks over the lists of nodes are those of the pipeline.
use Rattle.std.proofs.Common.{ℕ, ◌+◌, ◌<◌, ◌≡◌, List, Result, Some, length, get_or, set, refl, sym, ap, ◌∙◌, subst, arith}
use Rattle.std.specs.Prelude.{slice_get}
use Rattle.std.proofs.lemmas.List.{length-set, get_or-set_same, get_or-set_other, get_or_default}
use Rattle.std.proofs.lemmas.Option.{get_or_from_slice_get}
use Rattle.credit_link.specs.declared.turn.Turn.{Turn}
use Rattle.credit_link.specs.declared.turn.NodeFault.{NodeFault}
use Rattle.credit_link.specs.Ends.{TxSeen, RxSeen}
use Rattle.summary_spec.specs.Declaration.{Declared}
use Rattle.run_law.specs.Shapes.{Shape}
use Rattle.node_lanes.specs.Ends.{RxGoes}
use Rattle.net_law.specs.Parsers.{ParserSeen, ParserStands, ParserGoes}
use Rattle.net_law.specs.Groupers.{GrouperSeen, GrouperStands, GrouperGoes}
use Rattle.net_law.specs.Processors.{ProcessorSeen, ProcessorStands, ProcessorGoes}
use Rattle.net_law.specs.Merges.{MergeSeen, MergeGoes}
use Rattle.net_law.specs.Ends.{no_rx, tx_at, rx_at}
use Rattle.net_law.specs.Nets.{NetStands, no_parser, no_grouper, no_processor}
use Rattle.net_law.specs.Steps.{AreLooked, ParserLooked, GrouperLooked, ProcessorLooked, MergeLooked}
use Rattle.net_law.specs.Turned.{IsAlike}
use Rattle.net_law.proofs.Turned.{at_or_other}
use Rattle.pipeline_looks.specs.Links.{AreOnRings, OthersStay}
use Rattle.pipeline_nodes.specs.Nodes.{net_of}
use Rattle.pipeline_nodes.specs.Looks.{StandsApart, GrouperIsLookedAt, ProcessorIsLookedAt, MergeIsLookedAt}
use Rattle.pipeline_nodes.specs.Turns.{HasTurned}
use Rattle.pipeline_nodes.proofs.Looked.{parser_unseen, grouper_left, processor_left, merge_unseen, grouper_unseen, processor_unseen}
use Rattle.pipeline_nodes.proofs.Turned.{ParserAnswers, GrouperAnswers, ProcessorAnswers, MergeAnswers, parser_has_turned, grouper_has_turned, processor_has_turned, merge_has_turned}

-- ---- the ends of one link, whose receiver has had a turn

on_rings : (number : ℕ) (tx : TxSeen) (rx rx' : RxSeen) → AreOnRings number tx rx → RxGoes rx rx' → AreOnRings number tx rx'
on_rings number tx rx rx' ends goes = record {
  one = (goes.names.0 ∙ ends.one.0, goes.names.1 ∙ ends.one.1);
  data_places = ends.data_places;
  credit_places = ends.credit_places;
}

-- ---- the same numbers of nodes

abbrev counts : ℕ → ℕ → ℕ → Shape
counts parsers groupers processors = record { parsers = parsers; groupers = groupers; processors = processors }

same_counts : (a a' b b' c c' : ℕ) → a' ≡ a → b' ≡ b → c' ≡ c → counts a' b' c' ≡ counts a b c
same_counts a a' b b' c c' parsers groupers processors = ap (λ (n : ℕ). counts n b' c') parsers ∙ ap (λ (n : ℕ). counts a n c') groupers ∙ ap (λ (n : ℕ). counts a b n) processors

alike : (job : Declared) (credits : ℕ) (ps ps' : List ParserSeen) (gs gs' : List GrouperSeen) (qs qs' : List ProcessorSeen) (m m' : MergeSeen) → length ps' ≡ length ps → length gs' ≡ length gs → length qs' ≡ length qs
    → IsAlike (net_of job credits ps gs qs m) (net_of job credits ps' gs' qs' m')
alike job credits ps ps' gs gs' qs qs' m m' a b c = record { same = (refl, same_counts (length ps) (length ps') (length gs) (length gs') (length qs) (length qs') a b c, refl); counts = (a, b, c) }

module _ (job : Declared) (credits : ℕ) (ps : List ParserSeen) (gs : List GrouperSeen) (qs : List ProcessorSeen) (m : MergeSeen) (now : StandsApart (net_of job credits ps gs qs m)) where
  -- ---- a parser

  module _ (p : ℕ) (hp : p < length ps) (old turned : ParserSeen) (is : slice_get ps p ≡ Some old) where
    pub parser_turned : NetStands (net_of job credits ps gs qs m) → (result : Result Turn NodeFault) → ParserGoes old turned → ParserStands turned → ParserAnswers old turned result
        → HasTurned p (net_of job credits ps gs qs m) (net_of job credits (set ps p turned) gs qs m) result
    parser_turned whole result goes stands says =
        let was : get_or ps p (no_parser job) ≡ old = get_or_from_slice_get ps p old (no_parser job) is in
        let here : get_or (set ps p turned) p (no_parser job) ≡ turned = get_or-set_same ps p turned (no_parser job) hp in
        parser_has_turned (net_of job credits ps gs qs m) (net_of job credits (set ps p turned) gs qs m) result whole p hp
        (record {
          alike = alike job credits ps (set ps p turned) gs gs qs qs m m (length-set ps p turned) refl refl;
          goes = subst (λ (s : ParserSeen). ParserGoes s (get_or (set ps p turned) p (no_parser job))) (sym was) (subst (λ (s : ParserSeen). ParserGoes old s) (sym here) goes);
          stands = subst ParserStands (sym here) stands;
          parsers = λ i other. get_or-set_other ps p i turned (no_parser job) other;
          groupers = λ g. refl;
          processors = λ q. refl;
          merge = refl;
        })
        (subst (λ (s : ParserSeen). ParserAnswers s (get_or (set ps p turned) p (no_parser job)) result) (sym was) (subst (λ (s : ParserSeen). ParserAnswers old s result) (sym here) says))

  -- ---- a grouper

  pub grouper_stands : (g : ℕ) → g < length gs → (old : GrouperSeen) → slice_get gs g ≡ Some old → GrouperStands old
  grouper_stands g hg old is = subst GrouperStands (get_or_from_slice_get gs g old (no_grouper job) is) (now.groupers g hg).stands

  module _ (g : ℕ) (hg : g < length gs) (old turned : GrouperSeen) (is : slice_get gs g ≡ Some old) (goes : GrouperGoes old turned) where
    grouper_was : get_or gs g (no_grouper job) ≡ old
    grouper_was = get_or_from_slice_get gs g old (no_grouper job) is

    grouper_goes : GrouperGoes (get_or gs g (no_grouper job)) turned
    grouper_goes = subst (λ (s : GrouperSeen). GrouperGoes s turned) (sym grouper_was) goes

    grouper_credits : turned.credits ≡ credits
    grouper_credits = grouper_goes.same.3 ∙ (now.groupers g hg).credits

    pub grouper_ins : length turned.ins ≡ length ps
    grouper_ins = grouper_goes.ins.as_many ∙ (now.groupers g hg).ins

    pub grouper_outs : (p : ℕ) (d : ParserSeen) → p < length ps → g < length (get_or ps p d).outs.links
    grouper_outs p d hp =
        let outs : length (get_or ps p (no_parser job)).outs.links ≡ length gs + 1 = (now.parsers p hp).outs in
        let same : get_or ps p (no_parser job) ≡ get_or ps p d = get_or_default ps p (no_parser job) d hp in
        let long : length (get_or ps p d).outs.links ≡ length gs + 1 = subst (λ (s : ParserSeen). length s.outs.links ≡ length gs + 1) same outs in
        omega (arith, hg, long)

    pub grouper_ends : (p : ℕ) (d : ParserSeen) → p < length ps → AreOnRings turned.credits (tx_at (get_or ps p d).outs.links g) (rx_at turned.ins p)
    grouper_ends p d hp =
        let there : p < length (get_or gs g (no_grouper job)).ins = subst (λ (n : ℕ). p < n) (sym (now.groupers g hg).ins) hp in
        subst (λ (n : ℕ). AreOnRings n (tx_at (get_or ps p d).outs.links g) (rx_at turned.ins p)) (sym grouper_credits)
        (subst (λ (s : ParserSeen). AreOnRings credits (tx_at s.outs.links g) (rx_at turned.ins p)) (get_or_default ps p (no_parser job) d hp)
        (on_rings credits (tx_at (get_or ps p (no_parser job)).outs.links g) (rx_at (get_or gs g (no_grouper job)).ins p) (rx_at turned.ins p) (now.links.to_grouper p g hp hg) (grouper_goes.ins.each p no_rx there)))

    module _ (ps' : List ParserSeen) (seen : GrouperSeen) (looks : GrouperLooked turned seen) (long : length ps' ≡ length ps)
        (senders : (p : ℕ) (d : ParserSeen) → p < length ps → ParserLooked (get_or ps p d) (get_or ps' p d))
        (looked : (p : ℕ) (d : ParserSeen) → p < length ps → AreLooked turned.credits (tx_at (get_or ps' p d).outs.links g) (rx_at seen.ins p)) where
      grouper_here : get_or (set gs g seen) g (no_grouper job) ≡ seen
      grouper_here = get_or-set_same gs g seen (no_grouper job) hg

      grouper_looked_here : GrouperLooked turned (get_or (set gs g seen) g (no_grouper job))
      grouper_looked_here = subst (GrouperLooked turned) (sym grouper_here) looks

      to_grouper_looked : (p : ℕ) → p < length ps → AreLooked credits (tx_at (get_or ps' p (no_parser job)).outs.links g) (rx_at (get_or (set gs g seen) g (no_grouper job)).ins p)
      to_grouper_looked p hp =
          subst (λ (n : ℕ). AreLooked n (tx_at (get_or ps' p (no_parser job)).outs.links g) (rx_at (get_or (set gs g seen) g (no_grouper job)).ins p)) grouper_credits
          (subst (λ (s : GrouperSeen). AreLooked turned.credits (tx_at (get_or ps' p (no_parser job)).outs.links g) (rx_at s.ins p)) (sym grouper_here) (looked p (no_parser job) hp))

      pub grouper_turned : NetStands (net_of job credits ps gs qs m) → (result : Result Turn NodeFault) → GrouperAnswers old turned result
          → HasTurned (length ps + g) (net_of job credits ps gs qs m) (net_of job credits ps' (set gs g seen) qs m) result
      grouper_turned whole result says =
          grouper_has_turned (net_of job credits ps gs qs m) (net_of job credits ps' (set gs g seen) qs m) result whole g hg
          (record {
            alike = alike job credits ps ps' gs (set gs g seen) qs qs m m long (length-set gs g seen) refl;
            turned = turned;
            goes = grouper_goes;
            looks = grouper_looked_here;
            parsers = λ p hp. senders p (no_parser job) hp;
            groupers = λ i other. get_or-set_other gs g i seen (no_grouper job) other;
            processors = λ q. refl;
            merge = refl;
            looked = to_grouper_looked;
          })
          (subst (λ (s : GrouperSeen). GrouperAnswers s turned result) (sym grouper_was) says)

      pub grouper_seen : turned ≡ old → ((p : ℕ) (d : ParserSeen) → p < length ps → OthersStay g (get_or ps p d).outs (get_or ps' p d).outs)
          → GrouperIsLookedAt g (net_of job credits ps gs qs m) (net_of job credits ps' (set gs g seen) qs m)
      grouper_seen same beside = record {
        looks = record {
          alike = alike job credits ps ps' gs (set gs g seen) qs qs m m long (length-set gs g seen) refl;
          parsers = λ p hp. senders p (no_parser job) hp;
          groupers = λ i hi.
              at_or_other (λ (n : ℕ). GrouperLooked (get_or gs n (no_grouper job)) (get_or (set gs g seen) n (no_grouper job))) g i
              (subst (λ (s : GrouperSeen). GrouperLooked s (get_or (set gs g seen) g (no_grouper job))) (same ∙ sym grouper_was) grouper_looked_here)
              (λ other. grouper_left (get_or gs i (no_grouper job)) (get_or (set gs g seen) i (no_grouper job)) (get_or-set_other gs g i seen (no_grouper job) other) (now.groupers i hi).stands);
          processors = λ q hq. processor_unseen (get_or qs q (no_processor job)) (now.processors q hq).stands;
          merge = merge_unseen m now.merge.stands;
        };
        looked = to_grouper_looked;
        beside = λ p hp. beside p (no_parser job) hp;
        others = λ i other. get_or-set_other gs g i seen (no_grouper job) other;
      }

  -- ---- a query processor

  pub processor_stands : (q : ℕ) → q < length qs → (old : ProcessorSeen) → slice_get qs q ≡ Some old → ProcessorStands old
  processor_stands q hq old is = subst ProcessorStands (get_or_from_slice_get qs q old (no_processor job) is) (now.processors q hq).stands

  module _ (q : ℕ) (hq : q < length qs) (old turned : ProcessorSeen) (is : slice_get qs q ≡ Some old) (goes : ProcessorGoes old turned) where
    processor_was : get_or qs q (no_processor job) ≡ old
    processor_was = get_or_from_slice_get qs q old (no_processor job) is

    processor_goes : ProcessorGoes (get_or qs q (no_processor job)) turned
    processor_goes = subst (λ (s : ProcessorSeen). ProcessorGoes s turned) (sym processor_was) goes

    processor_credits : turned.credits ≡ credits
    processor_credits = processor_goes.same.1 ∙ (now.processors q hq).credits

    pub processor_ins : length turned.ins ≡ length gs
    processor_ins = processor_goes.ins.as_many ∙ (now.processors q hq).ins

    pub processor_outs : (g : ℕ) (d : GrouperSeen) → g < length gs → q < length (get_or gs g d).outs.links
    processor_outs g d hg =
        let same : get_or gs g (no_grouper job) ≡ get_or gs g d = get_or_default gs g (no_grouper job) d hg in
        let long : length (get_or gs g d).outs.links ≡ length qs = subst (λ (s : GrouperSeen). length s.outs.links ≡ length qs) same (now.groupers g hg).outs in
        omega (arith, hq, long)

    pub processor_ends : (g : ℕ) (d : GrouperSeen) → g < length gs → AreOnRings turned.credits (tx_at (get_or gs g d).outs.links q) (rx_at turned.ins g)
    processor_ends g d hg =
        let there : g < length (get_or qs q (no_processor job)).ins = subst (λ (n : ℕ). g < n) (sym (now.processors q hq).ins) hg in
        subst (λ (n : ℕ). AreOnRings n (tx_at (get_or gs g d).outs.links q) (rx_at turned.ins g)) (sym processor_credits)
        (subst (λ (s : GrouperSeen). AreOnRings credits (tx_at s.outs.links q) (rx_at turned.ins g)) (get_or_default gs g (no_grouper job) d hg)
        (on_rings credits (tx_at (get_or gs g (no_grouper job)).outs.links q) (rx_at (get_or qs q (no_processor job)).ins g) (rx_at turned.ins g) (now.links.to_processor g q hg hq) (processor_goes.ins.each g no_rx there)))

    module _ (gs' : List GrouperSeen) (seen : ProcessorSeen) (looks : ProcessorLooked turned seen) (long : length gs' ≡ length gs)
        (senders : (g : ℕ) (d : GrouperSeen) → g < length gs → GrouperLooked (get_or gs g d) (get_or gs' g d))
        (looked : (g : ℕ) (d : GrouperSeen) → g < length gs → AreLooked turned.credits (tx_at (get_or gs' g d).outs.links q) (rx_at seen.ins g)) where
      processor_here : get_or (set qs q seen) q (no_processor job) ≡ seen
      processor_here = get_or-set_same qs q seen (no_processor job) hq

      processor_looked_here : ProcessorLooked turned (get_or (set qs q seen) q (no_processor job))
      processor_looked_here = subst (ProcessorLooked turned) (sym processor_here) looks

      to_processor_looked : (g : ℕ) → g < length gs → AreLooked credits (tx_at (get_or gs' g (no_grouper job)).outs.links q) (rx_at (get_or (set qs q seen) q (no_processor job)).ins g)
      to_processor_looked g hg =
          subst (λ (n : ℕ). AreLooked n (tx_at (get_or gs' g (no_grouper job)).outs.links q) (rx_at (get_or (set qs q seen) q (no_processor job)).ins g)) processor_credits
          (subst (λ (s : ProcessorSeen). AreLooked turned.credits (tx_at (get_or gs' g (no_grouper job)).outs.links q) (rx_at s.ins g)) (sym processor_here) (looked g (no_grouper job) hg))

      pub processor_turned : NetStands (net_of job credits ps gs qs m) → (result : Result Turn NodeFault) → ProcessorAnswers old turned result
          → HasTurned (length ps + length gs + q) (net_of job credits ps gs qs m) (net_of job credits ps gs' (set qs q seen) m) result
      processor_turned whole result says =
          processor_has_turned (net_of job credits ps gs qs m) (net_of job credits ps gs' (set qs q seen) m) result whole q hq
          (record {
            alike = alike job credits ps ps gs gs' qs (set qs q seen) m m refl long (length-set qs q seen);
            turned = turned;
            goes = processor_goes;
            looks = processor_looked_here;
            parsers = λ p. refl;
            groupers = λ g hg. senders g (no_grouper job) hg;
            processors = λ i other. get_or-set_other qs q i seen (no_processor job) other;
            merge = refl;
            looked = to_processor_looked;
          })
          (subst (λ (s : ProcessorSeen). ProcessorAnswers s turned result) (sym processor_was) says)

      pub processor_seen : turned ≡ old → ((g : ℕ) (d : GrouperSeen) → g < length gs → OthersStay q (get_or gs g d).outs (get_or gs' g d).outs)
          → ((g : ℕ) (d : GrouperSeen) → g < length gs → (get_or gs' g d).ins ≡ (get_or gs g d).ins)
          → ProcessorIsLookedAt q (net_of job credits ps gs qs m) (net_of job credits ps gs' (set qs q seen) m)
      processor_seen same beside ins_stay = record {
        looks = record {
          alike = alike job credits ps ps gs gs' qs (set qs q seen) m m refl long (length-set qs q seen);
          parsers = λ p hp. parser_unseen (get_or ps p (no_parser job)) (now.parsers p hp).stands;
          groupers = λ g hg. senders g (no_grouper job) hg;
          processors = λ i hi.
              at_or_other (λ (n : ℕ). ProcessorLooked (get_or qs n (no_processor job)) (get_or (set qs q seen) n (no_processor job))) q i
              (subst (λ (s : ProcessorSeen). ProcessorLooked s (get_or (set qs q seen) q (no_processor job))) (same ∙ sym processor_was) processor_looked_here)
              (λ other. processor_left (get_or qs i (no_processor job)) (get_or (set qs q seen) i (no_processor job)) (get_or-set_other qs q i seen (no_processor job) other) (now.processors i hi).stands);
          merge = merge_unseen m now.merge.stands;
        };
        looked = to_processor_looked;
        beside = λ g hg. beside g (no_grouper job) hg;
        ins_stay = λ g hg. ins_stay g (no_grouper job) hg;
        others = λ i other. get_or-set_other qs q i seen (no_processor job) other;
        parsers = λ p. refl;
      }

  -- ---- the merge

  module _ (turned : MergeSeen) (goes : MergeGoes m turned) where
    merge_credits : turned.credits ≡ credits
    merge_credits = goes.same.2 ∙ now.merge.credits

    pub merge_ins : length turned.ins ≡ length ps + length qs
    merge_ins = goes.ins.as_many ∙ now.merge.ins

    pub merge_parser_outs : (groupers : ℕ) → groupers ≡ length gs → (p : ℕ) (d : ParserSeen) → p < length ps → groupers < length (get_or ps p d).outs.links
    merge_parser_outs groupers count p d hp =
        let same : get_or ps p (no_parser job) ≡ get_or ps p d = get_or_default ps p (no_parser job) d hp in
        let long : length (get_or ps p d).outs.links ≡ length gs + 1 = subst (λ (s : ParserSeen). length s.outs.links ≡ length gs + 1) same (now.parsers p hp).outs in
        omega (arith, count, long)

    pub merge_processor_outs : (q : ℕ) (d : ProcessorSeen) → q < length qs → 0 < length (get_or qs q d).outs.links
    merge_processor_outs q d hq =
        let same : get_or qs q (no_processor job) ≡ get_or qs q d = get_or_default qs q (no_processor job) d hq in
        let one : length (get_or qs q d).outs.links ≡ 1 = subst (λ (s : ProcessorSeen). length s.outs.links ≡ 1) same (now.processors q hq).stands.one_out in
        omega (arith, one)

    pub merge_parser_ends : (groupers : ℕ) → groupers ≡ length gs → (p : ℕ) (d : ParserSeen) → p < length ps → AreOnRings turned.credits (tx_at (get_or ps p d).outs.links groupers) (rx_at turned.ins p)
    merge_parser_ends groupers count p d hp =
        let there : p < length m.ins = omega (arith, hp, now.merge.ins) in
        subst (λ (k : ℕ). AreOnRings turned.credits (tx_at (get_or ps p d).outs.links k) (rx_at turned.ins p)) (sym count)
        (subst (λ (n : ℕ). AreOnRings n (tx_at (get_or ps p d).outs.links (length gs)) (rx_at turned.ins p)) (sym merge_credits)
        (subst (λ (s : ParserSeen). AreOnRings credits (tx_at s.outs.links (length gs)) (rx_at turned.ins p)) (get_or_default ps p (no_parser job) d hp)
        (on_rings credits (tx_at (get_or ps p (no_parser job)).outs.links (length gs)) (rx_at m.ins p) (rx_at turned.ins p) (now.links.to_merge p hp) (goes.ins.each p no_rx there))))

    pub merge_processor_ends : (q : ℕ) (d : ProcessorSeen) → q < length qs → AreOnRings turned.credits (tx_at (get_or qs q d).outs.links 0) (rx_at turned.ins (length ps + q))
    merge_processor_ends q d hq =
        let there : length ps + q < length m.ins = omega (arith, hq, now.merge.ins) in
        subst (λ (n : ℕ). AreOnRings n (tx_at (get_or qs q d).outs.links 0) (rx_at turned.ins (length ps + q))) (sym merge_credits)
        (subst (λ (s : ProcessorSeen). AreOnRings credits (tx_at s.outs.links 0) (rx_at turned.ins (length ps + q))) (get_or_default qs q (no_processor job) d hq)
        (on_rings credits (tx_at (get_or qs q (no_processor job)).outs.links 0) (rx_at m.ins (length ps + q)) (rx_at turned.ins (length ps + q)) (now.links.from_processor q hq) (goes.ins.each (length ps + q) no_rx there)))

    module _ (ps' : List ParserSeen) (qs' : List ProcessorSeen) (seen : MergeSeen) (groupers : ℕ) (count : groupers ≡ length gs) (looks : MergeLooked turned seen) (long : (length ps' ≡ length ps) × (length qs' ≡ length qs))
        (parsers : (p : ℕ) (d : ParserSeen) → p < length ps → ParserLooked (get_or ps p d) (get_or ps' p d))
        (processors : (q : ℕ) (d : ProcessorSeen) → q < length qs → ProcessorLooked (get_or qs q d) (get_or qs' q d))
        (counts_looked : (p : ℕ) (d : ParserSeen) → p < length ps → AreLooked turned.credits (tx_at (get_or ps' p d).outs.links groupers) (rx_at seen.ins p))
        (answers_looked : (q : ℕ) (d : ProcessorSeen) → q < length qs → AreLooked turned.credits (tx_at (get_or qs' q d).outs.links 0) (rx_at seen.ins (length ps + q))) where
      to_merge_looked : (p : ℕ) → p < length ps → AreLooked credits (tx_at (get_or ps' p (no_parser job)).outs.links (length gs)) (rx_at seen.ins p)
      to_merge_looked p hp =
          subst (λ (k : ℕ). AreLooked credits (tx_at (get_or ps' p (no_parser job)).outs.links k) (rx_at seen.ins p)) count
          (subst (λ (n : ℕ). AreLooked n (tx_at (get_or ps' p (no_parser job)).outs.links groupers) (rx_at seen.ins p)) merge_credits (counts_looked p (no_parser job) hp))

      from_processor_looked : (q : ℕ) → q < length qs → AreLooked credits (tx_at (get_or qs' q (no_processor job)).outs.links 0) (rx_at seen.ins (length ps + q))
      from_processor_looked q hq =
          subst (λ (n : ℕ). AreLooked n (tx_at (get_or qs' q (no_processor job)).outs.links 0) (rx_at seen.ins (length ps + q))) merge_credits (answers_looked q (no_processor job) hq)

      pub merge_turned : NetStands (net_of job credits ps gs qs m) → (result : Result Turn NodeFault) → MergeAnswers m turned result
          → HasTurned (length ps + length gs + length qs) (net_of job credits ps gs qs m) (net_of job credits ps' gs qs' seen) result
      merge_turned whole result says =
          merge_has_turned (net_of job credits ps gs qs m) (net_of job credits ps' gs qs' seen) result whole
          (record {
            alike = alike job credits ps ps' gs gs qs qs' m seen long.0 refl long.1;
            turned = turned;
            goes = goes;
            looks = looks;
            parsers = λ p hp. parsers p (no_parser job) hp;
            groupers = λ g. refl;
            processors = λ q hq. processors q (no_processor job) hq;
            counts_looked = to_merge_looked;
            answers_looked = from_processor_looked;
          })
          says

      pub merge_seen : turned ≡ m → ((p : ℕ) (d : ParserSeen) → p < length ps → OthersStay groupers (get_or ps p d).outs (get_or ps' p d).outs)
          → ((q : ℕ) (d : ProcessorSeen) → q < length qs → (get_or qs' q d).ins ≡ (get_or qs q d).ins)
          → MergeIsLookedAt (net_of job credits ps gs qs m) (net_of job credits ps' gs qs' seen)
      merge_seen same beside ins_stay = record {
        looks = record {
          alike = alike job credits ps ps' gs gs qs qs' m seen long.0 refl long.1;
          parsers = λ p hp. parsers p (no_parser job) hp;
          groupers = λ g hg. grouper_unseen (get_or gs g (no_grouper job)) (now.groupers g hg).stands;
          processors = λ q hq. processors q (no_processor job) hq;
          merge = subst (λ (s : MergeSeen). MergeLooked s seen) same looks;
        };
        counts_looked = to_merge_looked;
        answers_looked = from_processor_looked;
        beside = λ p hp. subst (λ (k : ℕ). OthersStay k (get_or ps p (no_parser job)).outs (get_or ps' p (no_parser job)).outs) count (beside p (no_parser job) hp);
        ins_stay = λ q hq. ins_stay q (no_processor job) hq;
        groupers = λ g. refl;
      }
