-- The summaries in front were placed, and no group was given out.
use Rattle.std.proofs.Common.{[], take}
use Rattle.window_grouper.specs.Open.{HasPlaced}
use Rattle.window_grouper.proofs.whole_list.central.Given as goal

abbrev pub invariant-loop-i : goal.invariant-loop-i
invariant-loop-i l = HasPlaced l.placed l.window (take l.i l.list.items) [] 0
