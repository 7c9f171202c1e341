use Rattle.std.proofs.Common.{◌≡◌, ◌++◌, map, drop}
use Rattle.serde_json.specs.View.{view}
use Rattle.job_values.specs.Parsed.{shown}
use Rattle.serde_json.specs.Data.{string}
use Rattle.job_text.specs.Parts.{set_names}
use Rattle.job_text.proofs.query.exits_value.Given as goal

abbrev pub invariant-loop-i : goal.invariant-loop-i
invariant-loop-i l = map view l.list.items ++ map string (set_names l.exits l.i (shown (drop l.i l.captures.items))) ≡ map string (set_names l.exits 0 (shown l.captures.items))
