use Rattle.round_law.proofs.Needed.{each_clause_is_needed}
use Rattle.round_law.proofs.laws.each_clause_is_needed.Goals as goal

pub returns : goal.returns
returns c = each_clause_is_needed
