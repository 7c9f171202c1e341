use Rattle.node_lists.specs.Lists.{AreEmpty, HaveRoom}
use Rattle.node_lists.proofs.lists.lists_with_room.Given as goal

abbrev pub invariant-loop : goal.invariant-loop
invariant-loop g l = record { empty : AreEmpty l.counter l.lists.items; room : HaveRoom l.room l.lists.items }
