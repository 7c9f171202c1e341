use Rattle.std.proofs.Common.{◌≡◌, ◌+◌, ◌*◌, ◌++◌, length, take}
use Rattle.std.specs.List.{flat_map}
use Rattle.node_frames.specs.Fields.{bytes_of}
use Rattle.node_frames.proofs.put.put_all_u128.Given as goal

abbrev pub invariant-loop-n : goal.invariant-loop-n
invariant-loop-n l =
    (l.out.bytes ≡ l.initial.out.bytes ++ flat_map (bytes_of 16) (take l.n-index l.all)) × (l.out.spare + 16 * l.n-index ≡ l.initial.out.spare)
    × (length l.out.bytes + l.out.spare ≡ length l.initial.out.bytes + l.initial.out.spare)
