use Rattle.net_law.proofs.Faults as law
use Rattle.net_law.proofs.laws.no_link_fault_comes.Goals as goal

pub returns : goal.returns
returns c = law.no_link_fault_comes
