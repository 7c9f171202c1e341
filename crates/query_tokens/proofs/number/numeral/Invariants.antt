use Rattle.query_tokens.proofs.Numerals.{Reads}
use Rattle.query_tokens.proofs.number.numeral.Given as goal

abbrev pub invariant-loop-byte : goal.invariant-loop-byte
invariant-loop-byte l = Reads l.base l.digits l.n l.byte-index
