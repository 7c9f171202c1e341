use Rattle.std.proofs.Common.{◌≡◌, ◌+◌, drop}
use Rattle.std.specs.Prelude.{bytes_eq}
use Rattle.std.specs.List.{position_or_len}
use Rattle.job_values.specs.Parsed.{shown}
use Rattle.job_table.proofs.rules.number_of.Given as goal

abbrev pub invariant-loop-i : goal.invariant-loop-i
invariant-loop-i l =
    position_or_len (λ other. bytes_eq other l.name) (shown l.names.items)
    ≡ l.i + position_or_len (λ other. bytes_eq other l.name) (shown (drop l.i l.names.items))
