-- It is the least of the marks so far.
use Rattle.std.proofs.Common.{◌≡◌, take}
use Rattle.watermarks.specs.Least.{least_mark}
use Rattle.watermarks.proofs.least.least_of.Given as goal

abbrev pub invariant-loop-capture : goal.invariant-loop-capture
invariant-loop-capture l = l.least ≡ least_mark (take l.capture l.marks)
