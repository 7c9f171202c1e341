use Rattle.std.specs.Prelude.{length}
use Rattle.query_state.proofs.taking.clear.Given as goal

abbrev pub decreases-members : goal.decreases-members
decreases-members l = length l.members.items
