use Rattle.std.proofs.Common.{◌≡◌, map}
use Rattle.std.specs.List.{range_with_len}
use Rattle.job_table.specs.Question.{items_of}
use Rattle.trace_gen.specs.Captures.{point_name}
use Rattle.trace_gen.proofs.sample_job.point_names.Given as goal

-- the names of the points so far
abbrev pub invariant-loop-point : goal.invariant-loop-point
invariant-loop-point l = items_of l.names.items ≡ map point_name (range_with_len 0 l.point)
