use Rattle.std.proofs.Common.{◌≡◌, ◌<◌, [], length, drop, All}
use Rattle.job_values.specs.Parsed.{shown}
use Rattle.job_values.specs.Values.{each}
use Rattle.serde_json.specs.View.{items_view}
use Rattle.job_table.specs.Table.{another}
use Rattle.job_table.proofs.numbers.others.Given as goal

abbrev pub invariant-loop-i : goal.invariant-loop-i
invariant-loop-i l =
    (each (another l.member (shown l.names.items)) [] (items_view l.list.items)
    ≡ each (another l.member (shown l.names.items)) l.numbers.items (items_view (drop l.i l.list.items)))
    × (length l.numbers.items ≡ l.i) × All (λ n. n < length l.names.items) l.numbers.items
