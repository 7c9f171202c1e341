-- The places in front of `position` hold the summaries there, and there is room for the rest.
use Rattle.std.proofs.Common.{◌≡◌, take, length, vec_len}
use Rattle.std.specs.Vec.{vec_capacity}
use Rattle.window_grouper.specs.Positions.{ArePlaces}
use Rattle.lean_order.proofs.order.places_in_turn.Given as goal

abbrev pub invariant-loop-position : goal.invariant-loop-position
invariant-loop-position l = record {
  places : ArePlaces l.list.items l.places.items (take l.position l.list.items);
  count : vec_len l.places ≡ l.position;
  room : vec_capacity l.places ≡ length l.list.items;
}
