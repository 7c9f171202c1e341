use Rattle.run_law.proofs.Arriving as law
use Rattle.run_law.proofs.laws.processor_keeps_on.Goals as goal

pub returns : goal.returns
returns c = law.processor_keeps_on
