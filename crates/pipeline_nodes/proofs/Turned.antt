-- What a turn of one node says and tells makes it a turn of the whole pipeline.
use Rattle.std.proofs.Common.{ℕ, ◌+◌, ◌<◌, ◌≡◌, ◌≢◌, Result, Ok, Err, Option, None, Some, sym, ap, ◌∙◌, subst}
use Rattle.std.specs.Prelude.{IfOk, IfErr, MatchResult}
use Rattle.credit_link.specs.declared.turn.Turn.{Turn}
use Rattle.credit_link.specs.declared.turn.NodeFault.{NodeFault}
use Rattle.round_law.specs.Waits.{Node}
use Rattle.round_law.specs.Rows.{TurnSays, TurnTells}
use Rattle.round_law.specs.Turns.{IsTurn}
use Rattle.net_law.specs.Parsers.{ParserSeen, ParserMeets, parser_view, parser_tells}
use Rattle.net_law.specs.Groupers.{GrouperSeen, GrouperMeets, grouper_view, grouper_tells}
use Rattle.net_law.specs.Processors.{ProcessorSeen, ProcessorMeets, processor_view, processor_tells}
use Rattle.net_law.specs.Merges.{MergeSeen, MergeMeets, merge_view, merge_tells}
use Rattle.net_law.specs.Nets.{Net, NetStands, parser_at, grouper_at, processor_at}
use Rattle.net_law.specs.Steps.{ParserLooked, GrouperLooked, ProcessorLooked, MergeLooked, NetGoes}
use Rattle.net_law.specs.Turned.{IsAlike, ParserTurns, GrouperTurns, ProcessorTurns, MergeTurns}
use Rattle.net_law.specs.Rounds.{view, NoneHasFault, RowOf}
use Rattle.net_law.proofs.Turned.{at_or_other, turns_go_on}
use Rattle.net_law.proofs.Steps.{net_goes_on}
use Rattle.net_law.proofs.Rounds.{turns_make_rounds}
use Rattle.run_rounds.specs.Faults.{fault_at}
use Rattle.run_rounds.specs.Looked.{NodesLooked}
use Rattle.pipeline_nodes.specs.Turns.{HasMet, HasTurned}
use Rattle.pipeline_nodes.specs.Turns.HasMet.{ParserMet, GrouperMet, ProcessorMet, MergeMet}
use Rattle.pipeline_nodes.proofs.Numbers.{FaultsAre, faults_are, faults_after, by_number, others_keep}
use Rattle.pipeline_nodes.proofs.Looked.{parser_left, grouper_left, processor_left, merge_left}
use Rattle.pipeline_nodes.proofs.Telling.{parser_tell, grouper_tell, processor_tell, merge_tell}

-- ---- the answer of a node of any kind

pub record Answers {S : Type 0} (tells : S → Type 0) (credits : S → ℕ) (shown : S → Node) (fault : S → Option NodeFault) (Meets : S → S → NodeFault → Type 0) (old turned : S) (result : Result Turn NodeFault) : Type 0 where
  pub says : IfOk result (λ turn. tells old → TurnSays (credits old) (shown old) (shown turned) turn)
  pub told : IfOk result (λ turn. tells old → TurnTells (shown old) (shown turned) turn)
  pub stored : MatchResult result (λ _. fault turned ≡ None) (λ bad. fault turned ≡ Some bad)
  pub again : (bad : NodeFault) → fault old ≡ Some bad → (result ≡ Err bad) × (turned ≡ old)
  pub causes : fault old ≡ None → IfErr result (λ bad. Meets old turned bad)

abbrev pub ParserAnswers : (old turned : ParserSeen) → Result Turn NodeFault → Type 0
ParserAnswers = Answers parser_tells (λ (s : ParserSeen). s.credits) parser_view (λ (s : ParserSeen). s.fault) ParserMeets

abbrev pub GrouperAnswers : (old turned : GrouperSeen) → Result Turn NodeFault → Type 0
GrouperAnswers = Answers grouper_tells (λ (s : GrouperSeen). s.credits) grouper_view (λ (s : GrouperSeen). s.fault) GrouperMeets

abbrev pub ProcessorAnswers : (old turned : ProcessorSeen) → Result Turn NodeFault → Type 0
ProcessorAnswers = Answers processor_tells (λ (s : ProcessorSeen). s.credits) processor_view (λ (s : ProcessorSeen). s.fault) ProcessorMeets

abbrev pub MergeAnswers : (old turned : MergeSeen) → Result Turn NodeFault → Type 0
MergeAnswers = Answers merge_tells (λ (s : MergeSeen). s.credits) merge_view (λ (s : MergeSeen). s.fault) MergeMeets

-- ---- where no node has met a fault

all_none : (net : Net) → FaultsAre net net.shape → NoneHasFault net → (n : ℕ) → fault_at net n ≡ None
all_none net is none n =
    by_number (λ (m : ℕ). fault_at net m ≡ None) net.shape.parsers net.shape.groupers net.shape.processors n
    (λ p less. is.parsers p less ∙ none.parsers p less) (λ g less. is.groupers g less ∙ none.groupers g less) (λ q less. is.processors q less ∙ none.processors q less) (is.merge ∙ none.merge) is.past

none_has : (net : Net) → FaultsAre net net.shape → ((n : ℕ) → fault_at net n ≡ None) → NoneHasFault net
none_has net is none = record {
  parsers = λ p less. sym (is.parsers p less) ∙ none p;
  groupers = λ g less. sym (is.groupers g less) ∙ none (net.shape.parsers + g);
  processors = λ q less. sym (is.processors q less) ∙ none (net.shape.parsers + net.shape.groupers + q);
  merge = sym is.merge ∙ none (net.shape.parsers + net.shape.groupers + net.shape.processors);
}

module _ (before after : Net) (now : NetStands before) (then : NetStands after) (node : ℕ) (others : (n : ℕ) → n ≢ node → fault_at after n ≡ fault_at before n) where
  none_after : NoneHasFault before → fault_at after node ≡ None → NoneHasFault after
  none_after quiet fine =
      none_has after (faults_are after then) (λ n.
      at_or_other (λ (m : ℕ). fault_at after m ≡ None) node n fine (λ other. others n other ∙ all_none before (faults_are before now) quiet n))

  module _ {S : Type 0} (tells : S → Type 0) (credits : S → ℕ) (shown : S → Node) (fault : S → Option NodeFault) (Meets : S → S → NodeFault → Type 0) (old turned : S)
      (tell : tells old) (was : fault_at before node ≡ fault old) (is : fault_at after node ≡ fault turned)
      (row : (turn : Turn) → NoneHasFault after → TurnSays (credits old) (shown old) (shown turned) turn → TurnTells (shown old) (shown turned) turn
      → IsTurn (RowOf before.credits turn) node (view before) (view after))
      (met : (bad : NodeFault) → Meets old turned bad → HasMet node before after bad) where
    turns_by : (result : Result Turn NodeFault) → Answers tells credits shown fault Meets old turned result
        → IfOk result (λ turn. NoneHasFault before → NoneHasFault after × IsTurn (RowOf before.credits turn) node (view before) (view after))
    turns_by (Ok turn) says = λ quiet.
        let none : NoneHasFault after = none_after quiet (is ∙ says.stored) in
        (none, row turn none (says.says tell) (says.told tell))
    turns_by (Err bad) says = tt

    fault_by : (result : Result Turn NodeFault) → Answers tells credits shown fault Meets old turned result → MatchResult result (λ _. fault_at after node ≡ None) (λ bad. fault_at after node ≡ Some bad)
    fault_by (Ok turn) says = is ∙ says.stored
    fault_by (Err bad) says = is ∙ says.stored

    causes_by : (result : Result Turn NodeFault) → Answers tells credits shown fault Meets old turned result → fault_at before node ≡ None → IfErr result (λ bad. HasMet node before after bad)
    causes_by (Ok turn) says none = tt
    causes_by (Err bad) says none = met bad (says.causes (sym was ∙ none))

    has_turned : (result : Result Turn NodeFault) → IsAlike before after → NetGoes before after → (turned ≡ old → NodesLooked before after) → Answers tells credits shown fault Meets old turned result
        → HasTurned node before after result
    has_turned result alike goes unturned says = record {
      stands = then;
      alike = alike;
      goes = goes;
      turns = turns_by result says;
      fault = fault_by result says;
      others = others;
      again = λ bad stored. let answered = says.again bad (sym was ∙ stored) in (answered.0, unturned answered.1);
      causes = causes_by result says;
    }

-- ---- the nodes of each kind

module _ (before after : Net) (result : Result Turn NodeFault) (now : NetStands before) where
  pub parser_has_turned : (p : ℕ) → p < before.shape.parsers → ParserTurns p before after → ParserAnswers (parser_at before p) (parser_at after p) result → HasTurned p before after result
  parser_has_turned p hp t says =
      let goes : NetGoes before after = (turns_go_on before after now).parser p hp t in
      let then : NetStands after = net_goes_on before after now goes in
      let was : FaultsAre before before.shape = faults_are before now in
      let is : FaultsAre after before.shape = faults_after before after t.alike then in
      has_turned before after now then p
      (others_keep before after p was is (λ i less other. ap (λ (s : ParserSeen). s.fault) (t.parsers i other)) (λ g less other. ap (λ (s : GrouperSeen). s.fault) (t.groupers g))
      (λ q less other. ap (λ (s : ProcessorSeen). s.fault) (t.processors q)) (λ other. ap (λ (s : MergeSeen). s.fault) t.merge))
      parser_tells (λ (s : ParserSeen). s.credits) parser_view (λ (s : ParserSeen). s.fault) ParserMeets (parser_at before p) (parser_at after p)
      (parser_tell before now p hp) (was.parsers p hp) (is.parsers p hp)
      (λ turn quiet row tells. (turns_make_rounds before after turn now then quiet).parser p hp t row tells)
      (λ bad meets. ParserMet p before after bad hp t.goes meets)
      result t.alike goes
      (λ same. record {
        alike = t.alike;
        parsers = λ i less.
            at_or_other (λ (n : ℕ). ParserLooked (parser_at before n) (parser_at after n)) p i
            (parser_left (parser_at before p) (parser_at after p) same (now.parsers p hp).stands)
            (λ other. parser_left (parser_at before i) (parser_at after i) (t.parsers i other) (now.parsers i less).stands);
        groupers = λ g less. grouper_left (grouper_at before g) (grouper_at after g) (t.groupers g) (now.groupers g less).stands;
        processors = λ q less. processor_left (processor_at before q) (processor_at after q) (t.processors q) (now.processors q less).stands;
        merge = merge_left before.merge after.merge t.merge now.merge.stands;
      })
      says

  pub grouper_has_turned : (g : ℕ) → g < before.shape.groupers → (t : GrouperTurns g before after) → GrouperAnswers (grouper_at before g) t.turned result → HasTurned (before.shape.parsers + g) before after result
  grouper_has_turned g hg t says =
      let goes : NetGoes before after = (turns_go_on before after now).grouper g hg t in
      let then : NetStands after = net_goes_on before after now goes in
      let was : FaultsAre before before.shape = faults_are before now in
      let is : FaultsAre after before.shape = faults_after before after t.alike then in
      has_turned before after now then (before.shape.parsers + g)
      (others_keep before after (before.shape.parsers + g) was is (λ p less other. ap (λ (s : ParserSeen). s.fault) (t.parsers p less).same)
      (λ i less other. ap (λ (s : GrouperSeen). s.fault) (t.groupers i (λ e. other (ap (λ (n : ℕ). before.shape.parsers + n) e))))
      (λ q less other. ap (λ (s : ProcessorSeen). s.fault) (t.processors q)) (λ other. ap (λ (s : MergeSeen). s.fault) t.merge))
      grouper_tells (λ (s : GrouperSeen). s.credits) grouper_view (λ (s : GrouperSeen). s.fault) GrouperMeets (grouper_at before g) t.turned
      (grouper_tell before now g hg) (was.groupers g hg) (is.groupers g hg ∙ ap (λ (s : GrouperSeen). s.fault) t.looks.same)
      (λ turn quiet row tells. (turns_make_rounds before after turn now then quiet).grouper g hg t row tells)
      (λ bad meets. GrouperMet g before after bad t.turned hg t.goes meets t.looks)
      result t.alike goes
      (λ same. record {
        alike = t.alike;
        parsers = t.parsers;
        groupers = λ i less.
            at_or_other (λ (n : ℕ). GrouperLooked (grouper_at before n) (grouper_at after n)) g i
            (subst (λ (s : GrouperSeen). GrouperLooked s (grouper_at after g)) same t.looks)
            (λ other. grouper_left (grouper_at before i) (grouper_at after i) (t.groupers i other) (now.groupers i less).stands);
        processors = λ q less. processor_left (processor_at before q) (processor_at after q) (t.processors q) (now.processors q less).stands;
        merge = merge_left before.merge after.merge t.merge now.merge.stands;
      })
      says

  pub processor_has_turned : (q : ℕ) → q < before.shape.processors → (t : ProcessorTurns q before after) → ProcessorAnswers (processor_at before q) t.turned result
      → HasTurned (before.shape.parsers + before.shape.groupers + q) before after result
  processor_has_turned q hq t says =
      let goes : NetGoes before after = (turns_go_on before after now).processor q hq t in
      let then : NetStands after = net_goes_on before after now goes in
      let was : FaultsAre before before.shape = faults_are before now in
      let is : FaultsAre after before.shape = faults_after before after t.alike then in
      has_turned before after now then (before.shape.parsers + before.shape.groupers + q)
      (others_keep before after (before.shape.parsers + before.shape.groupers + q) was is (λ p less other. ap (λ (s : ParserSeen). s.fault) (t.parsers p))
      (λ g less other. ap (λ (s : GrouperSeen). s.fault) (t.groupers g less).same)
      (λ i less other. ap (λ (s : ProcessorSeen). s.fault) (t.processors i (λ e. other (ap (λ (n : ℕ). before.shape.parsers + before.shape.groupers + n) e))))
      (λ other. ap (λ (s : MergeSeen). s.fault) t.merge))
      processor_tells (λ (s : ProcessorSeen). s.credits) processor_view (λ (s : ProcessorSeen). s.fault) ProcessorMeets (processor_at before q) t.turned
      (processor_tell before now q hq) (was.processors q hq) (is.processors q hq ∙ ap (λ (s : ProcessorSeen). s.fault) t.looks.same)
      (λ turn quiet row tells. (turns_make_rounds before after turn now then quiet).processor q hq t row tells)
      (λ bad meets. ProcessorMet q before after bad t.turned hq t.goes meets t.looks)
      result t.alike goes
      (λ same. record {
        alike = t.alike;
        parsers = λ p less. parser_left (parser_at before p) (parser_at after p) (t.parsers p) (now.parsers p less).stands;
        groupers = t.groupers;
        processors = λ i less.
            at_or_other (λ (n : ℕ). ProcessorLooked (processor_at before n) (processor_at after n)) q i
            (subst (λ (s : ProcessorSeen). ProcessorLooked s (processor_at after q)) same t.looks)
            (λ other. processor_left (processor_at before i) (processor_at after i) (t.processors i other) (now.processors i less).stands);
        merge = merge_left before.merge after.merge t.merge now.merge.stands;
      })
      says

  pub merge_has_turned : (t : MergeTurns before after) → MergeAnswers before.merge t.turned result
      → HasTurned (before.shape.parsers + before.shape.groupers + before.shape.processors) before after result
  merge_has_turned t says =
      let goes : NetGoes before after = (turns_go_on before after now).merge t in
      let then : NetStands after = net_goes_on before after now goes in
      let was : FaultsAre before before.shape = faults_are before now in
      let is : FaultsAre after before.shape = faults_after before after t.alike then in
      has_turned before after now then (before.shape.parsers + before.shape.groupers + before.shape.processors)
      (others_keep before after (before.shape.parsers + before.shape.groupers + before.shape.processors) was is (λ p less other. ap (λ (s : ParserSeen). s.fault) (t.parsers p less).same)
      (λ g less other. ap (λ (s : GrouperSeen). s.fault) (t.groupers g)) (λ q less other. ap (λ (s : ProcessorSeen). s.fault) (t.processors q less).same)
      (λ other. absurd (other Rattle.std.proofs.Common.refl)))
      merge_tells (λ (s : MergeSeen). s.credits) merge_view (λ (s : MergeSeen). s.fault) MergeMeets before.merge t.turned
      (merge_tell before now) was.merge (is.merge ∙ ap (λ (s : MergeSeen). s.fault) t.looks.same)
      (λ turn quiet row tells. (turns_make_rounds before after turn now then quiet).merge t row tells)
      (λ bad meets. MergeMet before after bad t.turned t.goes meets t.looks)
      result t.alike goes
      (λ same. record {
        alike = t.alike;
        parsers = t.parsers;
        groupers = λ g less. grouper_left (grouper_at before g) (grouper_at after g) (t.groupers g) (now.groupers g less).stands;
        processors = t.processors;
        merge = subst (λ (s : MergeSeen). MergeLooked s after.merge) same t.looks;
      })
      says
