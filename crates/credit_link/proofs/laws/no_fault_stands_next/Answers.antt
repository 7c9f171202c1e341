use Rattle.credit_link.proofs.Joining.{no_fault_stands_next}
use Rattle.credit_link.proofs.laws.no_fault_stands_next.Goals as goal

pub returns : goal.returns
returns c = no_fault_stands_next
