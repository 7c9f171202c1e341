use Rattle.std.proofs.Common.{◌≡◌, [], length, drop, All}
use Rattle.job_values.specs.Parsed.{shown}
use Rattle.job_values.specs.Values.{each}
use Rattle.serde_json.specs.View.{items_view}
use Rattle.job_table.specs.Question.{items_of}
use Rattle.job_table.specs.Limits.{Counts}
use Rattle.job_table.specs.Table.{var}
use Rattle.job_table.proofs.variable_rows.vars.Given as goal

abbrev pub invariant-loop-i : goal.invariant-loop-i
invariant-loop-i l =
    (each var ([], []) (items_view l.list.items) ≡ each var (shown l.names.items, items_of l.takes.items) (items_view (drop l.i l.list.items)))
    × (length l.names.items ≡ l.i) × (length l.takes.items ≡ l.i) × All (λ take. Counts 1 4 take.items) l.takes.items
