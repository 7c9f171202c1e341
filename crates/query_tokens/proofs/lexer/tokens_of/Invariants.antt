use Rattle.std.proofs.Common.{length, ◌-◌}
use Rattle.query_tokens.proofs.Lexed.{Lexed}
use Rattle.query_tokens.proofs.lexer.tokens_of.Given as goal

abbrev pub invariant-loop-at : goal.invariant-loop-at
invariant-loop-at l = Lexed l.bytes l.at l.tokens.items

abbrev pub decreases-loop-at : goal.decreases-loop-at
decreases-loop-at l = length l.bytes - l.at
