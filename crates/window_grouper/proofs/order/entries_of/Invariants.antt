-- The summaries in front of `position` have their entries, and there is room for those of the rest.
use Rattle.std.proofs.Common.{◌≡◌, take, length, vec_len}
use Rattle.std.specs.Vec.{vec_capacity}
use Rattle.window_grouper.specs.Positions.{AreEntries}
use Rattle.window_grouper.proofs.order.entries_of.Given as goal

abbrev pub invariant-loop-position : goal.invariant-loop-position
invariant-loop-position l = record {
  entries : AreEntries l.list.items l.entries.items (take l.position l.list.items);
  count : vec_len l.entries ≡ l.position;
  room : vec_capacity l.entries ≡ length l.list.items;
}
