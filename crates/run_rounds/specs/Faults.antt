-- The nodes of a pipeline and their faults, by numbers: parsers, groupers, processors, merge.
use Rattle.std.specs.Prelude.{ℕ, ◌+◌, List, [], ◌∷◌, ◌++◌, Option, None, length, map, slice_index_or}
use Rattle.credit_link.specs.declared.turn.NodeFault.{NodeFault}
use Rattle.net_law.specs.Parsers.{ParserSeen}
use Rattle.net_law.specs.Groupers.{GrouperSeen}
use Rattle.net_law.specs.Processors.{ProcessorSeen}
use Rattle.net_law.specs.Nets.{Net}

abbrev pub node_count : Net → ℕ
node_count net = length net.parsers + length net.groupers + length net.processors + 1

abbrev pub faults_of : Net → List (Option NodeFault)
faults_of net =
    map (λ (s : ParserSeen). s.fault) net.parsers ++ map (λ (s : GrouperSeen). s.fault) net.groupers
    ++ map (λ (s : ProcessorSeen). s.fault) net.processors ++ net.merge.fault ∷ []

-- the fault that the node of this number answers again
abbrev pub fault_at : Net → ℕ → Option NodeFault
fault_at net n = slice_index_or (faults_of net) n None
