-- No node of a pipeline over rings meets a fault of a link.
use Rattle.std.specs.Prelude.{ℕ, ◌<◌}
use Rattle.credit_link.specs.declared.link_bad.LinkBad.{LinkBad}
use Rattle.credit_link.specs.declared.turn.NodeFault.TheVariants.{Link}
use Rattle.net_law.specs.Parsers.{ParserSeen, ParserGoes, ParserMeets}
use Rattle.net_law.specs.Groupers.{GrouperSeen, GrouperGoes, GrouperMeets}
use Rattle.net_law.specs.Processors.{ProcessorSeen, ProcessorGoes, ProcessorMeets}
use Rattle.net_law.specs.Merges.{MergeSeen, MergeGoes, MergeMeets}
use Rattle.net_law.specs.Nets.{Net, NetStands, EachPair, parser_at, grouper_at, processor_at}
use Rattle.net_law.specs.Steps.{AreLooked, ParserLooked, GrouperLooked, ProcessorLooked, MergeLooked}

-- a pipeline that stands, after a look at all its links
pub record IsLookedAt (net : Net) : Type 0 where
  pub stands : NetStands net
  pub looked : EachPair (AreLooked net.credits) net

-- whatever node was turned before the look
pub record NoneMeetsLinks (net : Net) : Type 0 where
  pub parser : (p link : ℕ) (bad : LinkBad) (before turned : ParserSeen) → p < net.shape.parsers → ParserGoes before turned → ParserLooked turned (parser_at net p)
      → ¬ ParserMeets before turned (Link link bad)
  pub grouper : (g link : ℕ) (bad : LinkBad) (before turned : GrouperSeen) → g < net.shape.groupers → GrouperGoes before turned → GrouperLooked turned (grouper_at net g)
      → ¬ GrouperMeets before turned (Link link bad)
  pub processor : (q link : ℕ) (bad : LinkBad) (before turned : ProcessorSeen) → q < net.shape.processors → ProcessorGoes before turned → ProcessorLooked turned (processor_at net q)
      → ¬ ProcessorMeets before turned (Link link bad)
  pub merge : (link : ℕ) (bad : LinkBad) (before turned : MergeSeen) → MergeGoes before turned → MergeLooked turned net.merge → ¬ MergeMeets before turned (Link link bad)

abbrev pub NoLinkFaultComes : Type 0
NoLinkFaultComes = (net : Net) → IsLookedAt net → NoneMeetsLinks net
