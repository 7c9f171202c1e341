use Rattle.std.proofs.Common.{◌≡◌, map}
use Rattle.std.specs.List.{range_with_len}
use Rattle.trace_gen.proofs.sample_job.at_each_point.Given as goal

-- the items of the points so far
abbrev pub invariant-loop-point : goal.invariant-loop-point
invariant-loop-point g l = l.list.items ≡ map (λ _. l.item) (range_with_len 0 l.point)
