use Rattle.std.proofs.Common.{◌≡◌, map, take, drop}
use Rattle.ds_base.specs.Files.{named_bytes}
use Rattle.ds_base.specs.Outside.{source_of}
use Rattle.sample_run.specs.Made.{fresh_source}
use Rattle.sample_run.proofs.sources.sources_of.Given as goal

-- a source of each file so far
abbrev pub invariant-loop-k : goal.invariant-loop-k
invariant-loop-k l =
    map (λ s. source_of s.bytes.items (drop s.given s.bytes.items) 0) l.sources.items ≡ map fresh_source (map named_bytes (take l.k l.files.items))
