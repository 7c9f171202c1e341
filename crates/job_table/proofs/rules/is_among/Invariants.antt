use Rattle.std.proofs.Common.{◌≡◌, drop}
use Rattle.job_values.specs.Parsed.{shown}
use Rattle.job_table.specs.Words.{is_among}
use Rattle.job_table.proofs.rules.is_among.Given as goal

abbrev pub invariant-loop-i : goal.invariant-loop-i
invariant-loop-i l = is_among (shown l.names.items) l.name ≡ is_among (shown (drop l.i l.names.items)) l.name
