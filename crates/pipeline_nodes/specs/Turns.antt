-- What a turn of one node, and then a look at its links in, does to a pipeline.
use Rattle.std.specs.Prelude.{ℕ, ◌≡◌, ◌≢◌, ◌<◌, ◌+◌, Result, Err, Some, None, IfOk, IfErr, MatchResult}
use Rattle.credit_link.specs.declared.turn.Turn.{Turn}
use Rattle.credit_link.specs.declared.turn.NodeFault.{NodeFault}
use Rattle.round_law.specs.Turns.{IsTurn}
use Rattle.net_law.specs.Parsers.{ParserGoes, ParserMeets}
use Rattle.net_law.specs.Groupers.{GrouperSeen, GrouperGoes, GrouperMeets}
use Rattle.net_law.specs.Processors.{ProcessorSeen, ProcessorGoes, ProcessorMeets}
use Rattle.net_law.specs.Merges.{MergeSeen, MergeGoes, MergeMeets}
use Rattle.net_law.specs.Nets.{Net, NetStands, parser_at, grouper_at, processor_at}
use Rattle.net_law.specs.Steps.{GrouperLooked, ProcessorLooked, MergeLooked, NetGoes}
use Rattle.net_law.specs.Turned.{IsAlike}
use Rattle.net_law.specs.Rounds.{view, NoneHasFault, RowOf}
use Rattle.run_rounds.specs.Faults.{fault_at}
use Rattle.run_rounds.specs.Looked.{NodesLooked}

-- why the node of a number gave a fault for the first time: its turn met it, and then its links in were looked at
pub data HasMet : ℕ → Net → Net → NodeFault → Type 0 where
  ParserMet : (p : ℕ) (before after : Net) (bad : NodeFault) → p < before.shape.parsers
      → ParserGoes (parser_at before p) (parser_at after p) → ParserMeets (parser_at before p) (parser_at after p) bad → HasMet p before after bad
  GrouperMet : (g : ℕ) (before after : Net) (bad : NodeFault) (turned : GrouperSeen) → g < before.shape.groupers
      → GrouperGoes (grouper_at before g) turned → GrouperMeets (grouper_at before g) turned bad → GrouperLooked turned (grouper_at after g)
      → HasMet (before.shape.parsers + g) before after bad
  ProcessorMet : (q : ℕ) (before after : Net) (bad : NodeFault) (turned : ProcessorSeen) → q < before.shape.processors
      → ProcessorGoes (processor_at before q) turned → ProcessorMeets (processor_at before q) turned bad → ProcessorLooked turned (processor_at after q)
      → HasMet (before.shape.parsers + before.shape.groupers + q) before after bad
  MergeMet : (before after : Net) (bad : NodeFault) (turned : MergeSeen) → MergeGoes before.merge turned → MergeMeets before.merge turned bad → MergeLooked turned after.merge
      → HasMet (before.shape.parsers + before.shape.groupers + before.shape.processors) before after bad

-- the node of this number had a turn, which answered so
pub record HasTurned (node : ℕ) (before after : Net) (result : Result Turn NodeFault) : Type 0 where
  pub stands : NetStands after
  pub alike : IsAlike before after
  pub goes : NetGoes before after
  pub turns : IfOk result (λ turn. NoneHasFault before → NoneHasFault after × IsTurn (RowOf before.credits turn) node (view before) (view after))
  pub fault : MatchResult result (λ _. fault_at after node ≡ None) (λ bad. fault_at after node ≡ Some bad)
  pub others : (n : ℕ) → n ≢ node → fault_at after n ≡ fault_at before n
  pub again : (bad : NodeFault) → fault_at before node ≡ Some bad → (result ≡ Err bad) × NodesLooked before after
  pub causes : fault_at before node ≡ None → IfErr result (λ bad. HasMet node before after bad)
