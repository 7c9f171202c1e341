use Rattle.query_syntax.proofs.Reading.{one_tree}
use Rattle.query_syntax.proofs.law.one_reading.Goals as goal

pub returns : goal.returns
returns c = one_tree
