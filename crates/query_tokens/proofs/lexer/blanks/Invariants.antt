use Rattle.std.proofs.Common.{◌≡◌, ◌+◌, drop}
use Rattle.std.specs.List.{prefix_len}
use Rattle.query_tokens.specs.Lexing.{is_blank}
use Rattle.query_tokens.proofs.lexer.blanks.Given as goal

abbrev pub invariant-loop-i : goal.invariant-loop-i
invariant-loop-i l = prefix_len is_blank l.bytes ≡ l.i + prefix_len is_blank (drop l.i l.bytes)
