use Rattle.std.proofs.Common.{◌≡◌, ◌++◌, map, drop}
use Rattle.serde_json.specs.View.{view}
use Rattle.job_values.specs.Parsed.{shown}
use Rattle.job_text.specs.Parts.{capture_values}
use Rattle.job_text.proofs.lists.captures_value.Given as goal

abbrev pub invariant-loop-i : goal.invariant-loop-i
invariant-loop-i l =
    map view l.list.items ++ capture_values l.version (shown (drop l.i l.names.items)) (shown (drop l.i l.files.items)) (drop l.i l.offsets.items) (drop l.i l.skews.items) (drop l.i l.interfaces.items)
    ≡ capture_values l.version (shown l.names.items) (shown l.files.items) l.offsets.items l.skews.items l.interfaces.items
