use Rattle.std.proofs.Common.{◌≡◌, ◌++◌, map, drop}
use Rattle.serde_json.specs.View.{view}
use Rattle.job_values.specs.Parsed.{shown}
use Rattle.job_text.specs.Parts.{named}
use Rattle.job_text.proofs.lists.key_value.Given as goal

abbrev pub invariant-loop-i : goal.invariant-loop-i
invariant-loop-i l = map view l.list.items ++ map (named (shown l.vars.items)) (drop l.i l.key.items) ≡ map (named (shown l.vars.items)) l.key.items
