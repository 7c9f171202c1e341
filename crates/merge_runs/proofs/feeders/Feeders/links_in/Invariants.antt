-- All links in are new.
use Rattle.std.proofs.Common.{All}
use Rattle.net_law.specs.Starts.{IsNewRx}
use Rattle.merge_runs.proofs.feeders.Feeders.links_in.Given as goal

abbrev pub invariant-links : goal.invariant-links
invariant-links l = All (IsNewRx 2) l.ins.items
