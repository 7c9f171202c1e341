-- What was placed so far changes nothing of what is seen, and each turn takes one summary that waits.
use Rattle.std.proofs.Common.{length}
use Rattle.window_grouper.specs.Waiting.{IsKept, opened}
use Rattle.window_grouper.proofs.grouper.place_past.Given as goal

abbrev pub invariant-past : goal.invariant-past
invariant-past l = IsKept l.least l.fn.groups (opened l.fn.waiting.entries) l.groups (opened l.waiting.entries)

abbrev pub decreases-past : goal.decreases-past
decreases-past l = length l.waiting.entries
