use Rattle.std.proofs.Common.{ℕ, ◌<◌, ◌%◌, ◌≡◌}
use Rattle.run_law.specs.Links.{HasEnded}
use Rattle.frame_order.proofs.item_order.ItemOrder.have_all_ended.Given as goal

abbrev pub invariant-loop-c : goal.invariant-loop-c
invariant-loop-c l = (k : ℕ) → k < l.c → k % l.parsers ≡ l.parser → HasEnded k l.self
