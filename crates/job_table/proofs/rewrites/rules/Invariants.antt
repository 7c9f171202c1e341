use Rattle.std.proofs.Common.{◌≡◌, [], map, length, drop, All}
use Rattle.job_values.specs.Parsed.{shown}
use Rattle.job_values.specs.Values.{each}
use Rattle.serde_json.specs.View.{items_view}
use Rattle.job_table.specs.Question.{ruling_of}
use Rattle.job_table.specs.Limits.{IsRuling}
use Rattle.job_table.specs.QueryTable.{rule}
use Rattle.job_table.proofs.rewrites.rules.Given as goal

abbrev pub invariant-loop-i : goal.invariant-loop-i
invariant-loop-i l =
    (each (rule (shown l.variables.items)) [] (items_view l.list.items)
    ≡ each (rule (shown l.variables.items)) (map ruling_of l.rules.items) (items_view (drop l.i l.list.items)))
    × (length l.rules.items ≡ l.i) × All (λ rule. IsRuling (length l.variables.items) (ruling_of rule)) l.rules.items
