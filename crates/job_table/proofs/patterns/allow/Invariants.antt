use Rattle.std.proofs.Common.{◌≡◌, [], length, drop, All}
use Rattle.job_values.specs.Parsed.{shown}
use Rattle.job_values.specs.Values.{each}
use Rattle.serde_json.specs.View.{items_view}
use Rattle.job_table.specs.Limits.{IsPattern}
use Rattle.job_table.specs.QueryTable.{pattern}
use Rattle.job_table.proofs.patterns.allow.Given as goal

abbrev pub invariant-loop-i : goal.invariant-loop-i
invariant-loop-i l =
    (each (pattern (shown l.captures.items)) [] (items_view l.list.items)
    ≡ each (pattern (shown l.captures.items)) l.patterns.items (items_view (drop l.i l.list.items)))
    × (length l.patterns.items ≡ l.i) × All (IsPattern (length l.captures.items)) l.patterns.items
