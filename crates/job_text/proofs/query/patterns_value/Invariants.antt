use Rattle.std.proofs.Common.{◌≡◌, ◌++◌, map, drop}
use Rattle.serde_json.specs.View.{view}
use Rattle.job_values.specs.Parsed.{shown}
use Rattle.job_text.specs.Parts.{pattern_value}
use Rattle.job_text.proofs.query.patterns_value.Given as goal

abbrev pub invariant-loop-i : goal.invariant-loop-i
invariant-loop-i l = map view l.list.items ++ map (pattern_value (shown l.captures.items)) (drop l.i l.allow.items) ≡ map (pattern_value (shown l.captures.items)) l.allow.items
