use Rattle.std.proofs.Common.{ℕ, ◌<◌, ◌%◌, ◌≡◌}
use Rattle.run_law.specs.Links.{HasRow}
use Rattle.frame_order.proofs.counts_order.CountsOrder.have_all_rows.Given as goal

abbrev pub invariant-loop-c : goal.invariant-loop-c
invariant-loop-c l = (k : ℕ) → k < l.c → k % l.parsers ≡ l.parser → HasRow k l.self
