-- A query processor between turns.
use Rattle.std.specs.Prelude.{◌≡◌, Option, None}
use Rattle.credit_link.specs.declared.turn.NodeFault.{NodeFault}
use Rattle.net_law.specs.Processors.{ProcessorSeen, ProcessorStands}
use Rattle.query_node.specs.Works.{WorkSeen, processor_of, IsSound, PutsFew}

-- it keeps its promise, and its work is sound as long as it met no fault
pub record NodeHolds (w : WorkSeen) (fault : Option NodeFault) : Type 0 where
  pub stands : ProcessorStands (processor_of w fault)
  pub few : PutsFew w
  pub sound : fault ≡ None → IsSound w

-- what a loan of its link out changes
abbrev pub LendsItsOut : (before after : ProcessorSeen) → Type 0
LendsItsOut before after = (after ≡ record before { outs = after.outs }) × ProcessorStands after
