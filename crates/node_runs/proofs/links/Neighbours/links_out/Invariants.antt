-- All links out are new.
use Rattle.std.proofs.Common.{All}
use Rattle.net_law.specs.Starts.{IsNewTx}
use Rattle.node_runs.proofs.links.Neighbours.links_out.Given as goal

abbrev pub invariant-links : goal.invariant-links
invariant-links l = All (IsNewTx 2) l.outs.items
