use Rattle.net_law.proofs.Done as law
use Rattle.net_law.proofs.laws.still_is_done.Goals as goal

pub returns-clause-all : goal.returns-clause-all
returns-clause-all c = law.done_nodes_are_done

pub returns-clause-still : goal.returns-clause-still
returns-clause-still c = law.still_is_done
