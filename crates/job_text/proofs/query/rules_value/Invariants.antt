use Rattle.std.proofs.Common.{◌≡◌, ◌++◌, map, drop}
use Rattle.serde_json.specs.View.{view}
use Rattle.job_values.specs.Parsed.{shown}
use Rattle.job_table.specs.Question.{ruling_of}
use Rattle.job_text.specs.Parts.{ruling_value}
use Rattle.job_text.proofs.query.rules_value.Given as goal

abbrev pub invariant-loop-i : goal.invariant-loop-i
invariant-loop-i l = map view l.list.items ++ map (ruling_value (shown l.vars.items)) (map ruling_of (drop l.i l.rules.items)) ≡ map (ruling_value (shown l.vars.items)) (map ruling_of l.rules.items)
