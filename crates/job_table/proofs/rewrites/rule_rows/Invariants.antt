use Rattle.std.proofs.Common.{◌≡◌, [], length, drop, All}
use Rattle.job_values.specs.Values.{each}
use Rattle.serde_json.specs.View.{items_view}
use Rattle.job_table.specs.Limits.{IsRow}
use Rattle.job_table.specs.QueryTable.{row}
use Rattle.job_table.proofs.rewrites.rule_rows.Given as goal

abbrev pub invariant-loop-i : goal.invariant-loop-i
invariant-loop-i l =
    (each (row l.index) [] (items_view l.list.items) ≡ each (row l.index) l.rows.items (items_view (drop l.i l.list.items)))
    × (length l.rows.items ≡ l.i) × All IsRow l.rows.items
