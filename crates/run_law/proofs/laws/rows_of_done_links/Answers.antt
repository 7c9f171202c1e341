use Rattle.run_law.proofs.Rows as law
use Rattle.run_law.proofs.laws.rows_of_done_links.Goals as goal

pub returns : goal.returns
returns c = law.rows_are_lawful
