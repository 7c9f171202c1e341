use Rattle.std.proofs.Common.{◌≡◌, ◌≤◌, length, drop, All}
use Rattle.std.specs.Prelude.{IfSome, unsigned_abs}
use Rattle.job_values.specs.Values.{each}
use Rattle.serde_json.specs.View.{items_view}
use Rattle.job_table.specs.Limits.{longest, last_interface}
use Rattle.job_table.specs.Table.{capture, captured_of, no_captures}
use Rattle.job_table.proofs.capture_rows.captures.Given as goal

abbrev pub invariant-loop-i : goal.invariant-loop-i
invariant-loop-i l =
    (each (capture l.version) no_captures (items_view l.list.items) ≡ each (capture l.version) (captured_of l.lists) (items_view (drop l.i l.list.items)))
    × (length l.lists.names.items ≡ l.i)
    × (length l.lists.files.items ≡ l.i)
    × (length l.lists.offsets.items ≡ l.i)
    × All (λ offset. unsigned_abs offset ≤ longest) l.lists.offsets.items
    × (length l.lists.own_skews.items ≡ l.i)
    × All (λ own. IfSome own (λ skew. skew ≤ longest)) l.lists.own_skews.items
    × (length l.lists.interfaces.items ≡ l.i)
    × All (λ own. IfSome own (λ n. n ≤ last_interface)) l.lists.interfaces.items
