use Rattle.std.proofs.Common.{◌≡◌, ◌++◌, drop}
use Rattle.std.specs.List.{flat_map}
use Rattle.stack_lines.specs.Stacks.{header_text}
use Rattle.stack_lines.proofs.line.push_headers.Given as goal

-- what was put and what is left are together all headers
abbrev pub invariant-loop-i : goal.invariant-loop-i
invariant-loop-i l = l.text.items ++ flat_map header_text (drop l.i l.stack) ≡ l.fn.text.items ++ flat_map header_text l.stack
