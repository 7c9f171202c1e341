use Rattle.std.proofs.Common.{◌≡◌, map}
use Rattle.std.specs.List.{range_with_len}
use Rattle.ds_base.specs.Files.{named_bytes}
use Rattle.trace_gen.specs.Captures.{named_file}
use Rattle.trace_gen.proofs.sample.capture_files.Given as goal

-- the files of the points so far
abbrev pub invariant-loop-point : goal.invariant-loop-point
invariant-loop-point l = map named_bytes l.files.items ≡ map (named_file l.seen.items) (range_with_len 0 l.point)
