-- All nodes of a pipeline in one value.
use Rattle.std.specs.Prelude.{ℕ, ◌≡◌, List, Some, length}
use Rattle.credit_link.specs.declared.turn.NodeFault.{NodeFault}
use Rattle.credit_link.specs.declared.turn.NodeFault.TheVariants.{Malformed, Read, Write, Link, OutOfMemory}
use Rattle.summary_spec.specs.Declaration.{Declared}
use Rattle.net_law.specs.Parsers.{ParserSeen}
use Rattle.net_law.specs.Groupers.{GrouperSeen}
use Rattle.net_law.specs.Processors.{ProcessorSeen}
use Rattle.net_law.specs.Merges.{MergeSeen}
use Rattle.net_law.specs.Nets.{Net, NetStands}
use Rattle.run_rounds.specs.Faults.{fault_at}

-- the pipeline of these nodes, whose shape is how many there are
abbrev pub net_of : Declared → (credits : ℕ) → List ParserSeen → List GrouperSeen → List ProcessorSeen → MergeSeen → Net
net_of job credits parsers groupers processors merge = record {
  job = job;
  shape = record { parsers = length parsers; groupers = length groupers; processors = length processors };
  credits = credits;
  parsers = parsers;
  groupers = groupers;
  processors = processors;
  merge = merge;
}

-- the nodes, and the name of the reference to the sink, by which whoever lent the sink knows it again
pub record NodesSeen : Type 0 where
  pub net : Net
  pub lent : ℕ

-- the fault is none of a link
abbrev pub IsNoLink : NodeFault → Type 0
IsNoLink (Malformed capture bad) = Unit {0}
IsNoLink (Read capture) = Unit {0}
IsNoLink Write = Unit {0}
IsNoLink (Link link bad) = ⊥
IsNoLink OutOfMemory = Unit {0}

-- between turns and looks: the pipeline stands, and no node has met a fault of a link
pub record NodesStand (net : Net) : Type 0 where
  pub stands : NetStands net
  pub no_link : (n : ℕ) (bad : NodeFault) → fault_at net n ≡ Some bad → IsNoLink bad
