-- The meaning of an expression over a summary.
use Rattle.std.specs.Prelude.{ℕ, Option, Some, None, slice_get}
use Rattle.ds_base.specs.declared.summary.Summary.{Summary}
use Rattle.query_lang.specs.declared.expression.Term.{Term}
use Rattle.query_lang.specs.declared.expression.Term.TheVariants.{Variable, Time, Capture}
use Rattle.query_lang.specs.Expression.{Expression}
use Rattle.query_lang.specs.Meaning.{meaning}

-- what a term reads of a summary; the terms of groups read nothing
abbrev pub read_of_summary : Summary → Term → Option ℕ
read_of_summary s (Variable v) = slice_get s.vals v
read_of_summary s Time = Some s.at.time
read_of_summary s Capture = Some s.at.capture
read_of_summary s _ = None

-- the meaning of an expression over a summary
abbrev pub meaning_one : Expression → Summary → Option ℕ
meaning_one e s = meaning (read_of_summary s) e
