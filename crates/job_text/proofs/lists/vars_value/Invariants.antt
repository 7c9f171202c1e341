use Rattle.std.proofs.Common.{◌≡◌, ◌++◌, map, drop}
use Rattle.serde_json.specs.View.{view}
use Rattle.job_values.specs.Parsed.{shown}
use Rattle.job_table.specs.Question.{items_of}
use Rattle.job_text.specs.Parts.{both_of, var_value}
use Rattle.job_text.proofs.lists.vars_value.Given as goal

abbrev pub invariant-loop-i : goal.invariant-loop-i
invariant-loop-i l = map view l.list.items ++ both_of var_value (shown (drop l.i l.names.items)) (items_of (drop l.i l.takes.items)) ≡ both_of var_value (shown l.names.items) (items_of l.takes.items)
