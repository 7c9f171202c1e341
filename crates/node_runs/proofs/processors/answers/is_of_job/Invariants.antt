-- All members before this one are of the job.
use Rattle.std.proofs.Common.{All, take}
use Rattle.node_runs.specs.Members.{IsMemberOfJob}
use Rattle.node_runs.proofs.processors.answers.is_of_job.Given as goal

abbrev pub invariant-members : goal.invariant-members
invariant-members l = All (IsMemberOfJob l.vars) (take l.i l.group.members.items)
