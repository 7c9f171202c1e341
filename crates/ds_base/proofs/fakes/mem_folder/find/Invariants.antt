use Rattle.std.proofs.Common.{◌≡◌, map, drop}
use Rattle.ds_base.specs.Outside.{file_named}
use Rattle.ds_base.specs.Files.{named_bytes}
use Rattle.ds_base.proofs.fakes.mem_folder.find.Given as goal

-- no file before i has the name
abbrev pub invariant-loop-i : goal.invariant-loop-i
invariant-loop-i l = file_named (map named_bytes l.files.items) l.name ≡ file_named (map named_bytes (drop l.i l.files.items)) l.name
