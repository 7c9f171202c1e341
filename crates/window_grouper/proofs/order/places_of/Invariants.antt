-- The places of the entries so far, and there is room for those of the rest.
use Rattle.std.proofs.Common.{◌≡◌, map, take, length, vec_len}
use Rattle.std.specs.Vec.{vec_capacity}
use Rattle.window_grouper.specs.declared.order.Entry.{Entry}
use Rattle.window_grouper.proofs.order.places_of.Given as goal

abbrev pub invariant-loop-entry : goal.invariant-loop-entry
invariant-loop-entry l = record {
  places : l.places.items ≡ map (λ (e : Entry). e.position) (take l.entry-index l.entries);
  count : vec_len l.places ≡ l.entry-index;
  room : vec_capacity l.places ≡ length l.entries;
}
