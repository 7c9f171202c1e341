use Rattle.std.proofs.Common.{◌≡◌, ◌+◌, drop}
use Rattle.std.specs.List.{prefix_len}
use Rattle.query_tokens.specs.Numbers.{is_number_byte}
use Rattle.query_tokens.proofs.number.number_length.Given as goal

abbrev pub invariant-loop-i : goal.invariant-loop-i
invariant-loop-i l = prefix_len is_number_byte l.bytes ≡ l.i + prefix_len is_number_byte (drop l.i l.bytes)
