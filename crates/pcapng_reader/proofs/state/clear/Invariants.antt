use Rattle.std.proofs.Common.{◌≤◌, length}
use Rattle.pcapng_reader.proofs.state.clear.Given as goal

abbrev pub invariant-all : goal.invariant-all
invariant-all l = l.initial.interfaces.spare ≤ l.interfaces.spare

abbrev pub decreases-all : goal.decreases-all
decreases-all l = length l.interfaces.items
