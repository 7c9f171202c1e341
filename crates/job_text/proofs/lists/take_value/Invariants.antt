use Rattle.std.proofs.Common.{◌≡◌, ◌++◌, map, drop}
use Rattle.serde_json.specs.View.{view}
use Rattle.job_text.specs.Parts.{field_value}
use Rattle.job_text.proofs.lists.take_value.Given as goal

abbrev pub invariant-loop-i : goal.invariant-loop-i
invariant-loop-i l = map view l.list.items ++ map field_value (drop l.i l.take.items) ≡ map field_value l.take.items
