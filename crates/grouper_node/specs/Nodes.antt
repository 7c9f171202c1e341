-- A grouper between turns.
use Rattle.std.specs.Prelude.{◌≡◌, Option, None}
use Rattle.credit_link.specs.declared.turn.NodeFault.{NodeFault}
use Rattle.net_law.specs.Groupers.{GrouperSeen, GrouperStands}
use Rattle.grouper_node.specs.Works.{WorkSeen, grouper_of, IsSound, PutsFew}

-- it keeps its promise, and its work is sound as long as it met no fault
pub record NodeHolds (w : WorkSeen) (fault : Option NodeFault) : Type 0 where
  pub stands : GrouperStands (grouper_of w fault)
  pub few : PutsFew w
  pub sound : fault ≡ None → IsSound w

-- what a loan of a link out changes
abbrev pub LendsItsOuts : (before after : GrouperSeen) → Type 0
LendsItsOuts before after = (after ≡ record before { outs = after.outs }) × GrouperStands after
