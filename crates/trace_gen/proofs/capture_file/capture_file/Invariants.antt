use Rattle.std.proofs.Common.{◌≡◌, take}
use Rattle.trace_gen.specs.Captures.{capture_file}
use Rattle.trace_gen.proofs.capture_file.capture_file.Given as goal

-- the file of the sightings so far
abbrev pub invariant-loop-k : goal.invariant-loop-k
invariant-loop-k l = l.out.items ≡ capture_file l.point (take l.k l.seen.items)
