use Rattle.std.proofs.Common.{◌≡◌, [], length, drop}
use Rattle.job_values.specs.Values.{each}
use Rattle.serde_json.specs.View.{items_view}
use Rattle.job_table.specs.Table.{field}
use Rattle.job_table.proofs.variable_rows.var_take.Given as goal

abbrev pub invariant-loop-i : goal.invariant-loop-i
invariant-loop-i l =
    (each (field l.index) [] (items_view l.list.items) ≡ each (field l.index) l.take.items (items_view (drop l.i l.list.items)))
    × (length l.take.items ≡ l.i)
