use Rattle.query_syntax.proofs.OneLexing.{one_read, one_fault, never_both}
use Rattle.query_syntax.proofs.law.one_outcome.Goals as goal

pub returns : goal.returns
returns c = record { tree = one_read; fault = one_fault; either = never_both }
