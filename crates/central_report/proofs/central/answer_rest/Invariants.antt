use Rattle.std.proofs.Common.{List, length}
use Rattle.ds_base.specs.declared.summary.Summary.{Summary}
use Rattle.summary_spec.specs.Job.{declared_of}
use Rattle.central_report.specs.Progress.{HasLeft}
use Rattle.central_report.proofs.central.answer_rest.Given as goal

-- what was left when the call began is answered or still left
abbrev pub invariant-loop-group : goal.invariant-loop-group
invariant-loop-group l =
    (front : List Summary) → HasLeft l.job.names.captures.items (declared_of l.job) l.fn.groups.held l.fn.written front
    → HasLeft l.job.names.captures.items (declared_of l.job) l.groups.held l.written front

abbrev pub decreases-loop-group : goal.decreases-loop-group
decreases-loop-group l = length l.groups.held
