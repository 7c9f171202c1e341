-- Turns of one node are steps of a pipeline.
use Rattle.std.proofs.Common.{ℕ, ◌≡◌, ◌≢◌, ◌<◌, ◌+◌, true, false, inl, inr, sym, ap, subst, ⊎_elim}
use Rattle.std.specs.Prelude.{◌==◌}
use Rattle.std.proofs.lemmas.Bool.{cases_Bool, eqb-true, eq-eqb}
use Rattle.credit_link.specs.Ends.{RxSeen}
use Rattle.net_law.specs.Parsers.{ParserSeen, ParserStands, ParserGoes}
use Rattle.net_law.specs.Groupers.{GrouperSeen, GrouperStands, GrouperGoes}
use Rattle.net_law.specs.Processors.{ProcessorSeen, ProcessorStands, ProcessorGoes}
use Rattle.net_law.specs.Merges.{MergeSeen, MergeStands, MergeGoes}
use Rattle.net_law.specs.Ends.{tx_at, rx_at}
use Rattle.net_law.specs.Nets.{Net, NetStands, parser_at, grouper_at, processor_at}
use Rattle.net_law.specs.Steps.{IsSeenTo, NetGoes}
use Rattle.net_law.specs.Turned.{ParserTurns, GrouperTurns, ProcessorTurns, MergeTurns, TurnsGoOn}
use Rattle.net_law.proofs.Going.{parser_stays, parser_looked, grouper_stays, grouper_then, grouper_looked, processor_stays, processor_then, processor_looked, merge_stays, merge_then, merge_looked}

-- what is true of number i where it is n, and where it is not
pub at_or_other : (P : ℕ → Type 0) (n i : ℕ) → P n → (i ≢ n → P i) → P i
at_or_other P n i here other =
    ⊎_elim
    (λ (t : (i == n) ≡ true). subst P (sym (eqb-true i n t)) here)
    (λ (f : (i == n) ≡ false). other (λ (e : i ≡ n). let t : (i == n) ≡ true = eq-eqb i n e in absurd (cc)))
    (cases_Bool (i == n))

-- a node that was left alone
parser_same : (a b : ParserSeen) → b ≡ a → ParserStands a → ParserGoes a b × ParserStands b
parser_same a b same stands = subst (λ s. ParserGoes a s × ParserStands s) (sym same) (parser_stays a, stands)

grouper_same : (a b : GrouperSeen) → b ≡ a → GrouperStands a → GrouperGoes a b × GrouperStands b
grouper_same a b same stands = subst (λ s. GrouperGoes a s × GrouperStands s) (sym same) (grouper_stays a, stands)

processor_same : (a b : ProcessorSeen) → b ≡ a → ProcessorStands a → ProcessorGoes a b × ProcessorStands b
processor_same a b same stands = subst (λ s. ProcessorGoes a s × ProcessorStands s) (sym same) (processor_stays a, stands)

merge_same : (a b : MergeSeen) → b ≡ a → MergeStands a → MergeGoes a b × MergeStands b
merge_same a b same stands = subst (λ s. MergeGoes a s × MergeStands s) (sym same) (merge_stays a, stands)

module _ (before after : Net) (now : NetStands before) where
  parser_turn : (p : ℕ) → p < before.shape.parsers → ParserTurns p before after → NetGoes before after
  parser_turn p hp t = record {
    same = t.alike.same;
    counts = t.alike.counts;
    parsers = λ i less.
        at_or_other (λ (n : ℕ). ParserGoes (parser_at before n) (parser_at after n) × ParserStands (parser_at after n)) p i (t.goes, t.stands)
        (λ other. parser_same (parser_at before i) (parser_at after i) (t.parsers i other) (now.parsers i less).stands);
    groupers = λ g less. grouper_same (grouper_at before g) (grouper_at after g) (t.groupers g) (now.groupers g less).stands;
    processors = λ q less. processor_same (processor_at before q) (processor_at after q) (t.processors q) (now.processors q less).stands;
    merge = merge_same before.merge after.merge t.merge now.merge.stands;
    to_grouper = λ i g hi hg. inl (ap (λ (s : GrouperSeen). (rx_at s.ins i).given) (t.groupers g));
    to_merge = λ i hi. inl (ap (λ (s : MergeSeen). (rx_at s.ins i).given) t.merge);
    to_processor = λ g q hg hq. inl (ap (λ (s : ProcessorSeen). (rx_at s.ins g).given) (t.processors q));
    from_processor = λ q hq. inl (ap (λ (s : MergeSeen). (rx_at s.ins (before.shape.parsers + q)).given) t.merge);
  }

  grouper_turn : (g : ℕ) → g < before.shape.groupers → GrouperTurns g before after → NetGoes before after
  grouper_turn g hg t = record {
    same = t.alike.same;
    counts = t.alike.counts;
    parsers = λ p less. (parser_looked (parser_at before p) (parser_at after p) (t.parsers p less), (t.parsers p less).stands);
    groupers = λ i less.
        at_or_other (λ (n : ℕ). GrouperGoes (grouper_at before n) (grouper_at after n) × GrouperStands (grouper_at after n)) g i
        (grouper_then (grouper_at before g) t.turned (grouper_at after g) t.goes (grouper_looked t.turned (grouper_at after g) t.looks), t.looks.stands)
        (λ other. grouper_same (grouper_at before i) (grouper_at after i) (t.groupers i other) (now.groupers i less).stands);
    processors = λ q less. processor_same (processor_at before q) (processor_at after q) (t.processors q) (now.processors q less).stands;
    merge = merge_same before.merge after.merge t.merge now.merge.stands;
    to_grouper = λ p i hp hi.
        at_or_other (λ (n : ℕ). IsSeenTo before.credits (tx_at (parser_at after p).outs.links n) (rx_at (grouper_at before n).ins p) (rx_at (grouper_at after n).ins p)) g i
        (inr (t.looked p hp))
        (λ other. inl (ap (λ (s : GrouperSeen). (rx_at s.ins p).given) (t.groupers i other)));
    to_merge = λ i hi. inl (ap (λ (s : MergeSeen). (rx_at s.ins i).given) t.merge);
    to_processor = λ i q hi hq. inl (ap (λ (s : ProcessorSeen). (rx_at s.ins i).given) (t.processors q));
    from_processor = λ q hq. inl (ap (λ (s : MergeSeen). (rx_at s.ins (before.shape.parsers + q)).given) t.merge);
  }

  processor_turn : (q : ℕ) → q < before.shape.processors → ProcessorTurns q before after → NetGoes before after
  processor_turn q hq t = record {
    same = t.alike.same;
    counts = t.alike.counts;
    parsers = λ p less. parser_same (parser_at before p) (parser_at after p) (t.parsers p) (now.parsers p less).stands;
    groupers = λ g less. (grouper_looked (grouper_at before g) (grouper_at after g) (t.groupers g less), (t.groupers g less).stands);
    processors = λ i less.
        at_or_other (λ (n : ℕ). ProcessorGoes (processor_at before n) (processor_at after n) × ProcessorStands (processor_at after n)) q i
        (processor_then (processor_at before q) t.turned (processor_at after q) t.goes (processor_looked t.turned (processor_at after q) t.looks), t.looks.stands)
        (λ other. processor_same (processor_at before i) (processor_at after i) (t.processors i other) (now.processors i less).stands);
    merge = merge_same before.merge after.merge t.merge now.merge.stands;
    to_grouper = λ p g hp hg.
        inl (ap (λ (r : RxSeen). r.given) ((t.groupers g hg).ins.each p).same);
    to_merge = λ i hi. inl (ap (λ (s : MergeSeen). (rx_at s.ins i).given) t.merge);
    to_processor = λ g i hg hi.
        at_or_other (λ (n : ℕ). IsSeenTo before.credits (tx_at (grouper_at after g).outs.links n) (rx_at (processor_at before n).ins g) (rx_at (processor_at after n).ins g)) q i
        (inr (t.looked g hg))
        (λ other. inl (ap (λ (s : ProcessorSeen). (rx_at s.ins g).given) (t.processors i other)));
    from_processor = λ i hi. inl (ap (λ (s : MergeSeen). (rx_at s.ins (before.shape.parsers + i)).given) t.merge);
  }

  merge_turn : MergeTurns before after → NetGoes before after
  merge_turn t = record {
    same = t.alike.same;
    counts = t.alike.counts;
    parsers = λ p less. (parser_looked (parser_at before p) (parser_at after p) (t.parsers p less), (t.parsers p less).stands);
    groupers = λ g less. grouper_same (grouper_at before g) (grouper_at after g) (t.groupers g) (now.groupers g less).stands;
    processors = λ q less. (processor_looked (processor_at before q) (processor_at after q) (t.processors q less), (t.processors q less).stands);
    merge = (merge_then before.merge t.turned after.merge t.goes (merge_looked t.turned after.merge t.looks), t.looks.stands);
    to_grouper = λ p g hp hg. inl (ap (λ (s : GrouperSeen). (rx_at s.ins p).given) (t.groupers g));
    to_merge = λ p hp. inr (t.counts_looked p hp);
    to_processor = λ g q hg hq. inl (ap (λ (r : RxSeen). r.given) ((t.processors q hq).ins.each g).same);
    from_processor = λ q hq. inr (t.answers_looked q hq);
  }

pub turns_go_on : TurnsGoOn
turns_go_on before after now = record {
  parser = parser_turn before after now;
  grouper = grouper_turn before after now;
  processor = processor_turn before after now;
  merge = merge_turn before after now;
}
