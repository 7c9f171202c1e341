use Rattle.std.proofs.Common.{◌≡◌, ◌++◌, map, drop}
use Rattle.serde_json.specs.View.{view}
use Rattle.job_text.specs.Parts.{row_value}
use Rattle.job_text.proofs.query.rows_value.Given as goal

abbrev pub invariant-loop-i : goal.invariant-loop-i
invariant-loop-i l = map view l.list.items ++ map row_value (drop l.i l.rows.items) ≡ map row_value l.rows.items
