use Rattle.std.proofs.Common.{◌≤◌, ℕ, List, length}
use Rattle.ds_base.specs.declared.summary.Summary.{Summary}
use Rattle.summary_spec.specs.Job.{declared_of}
use Rattle.central_report.specs.Progress.{HasTaken}
use Rattle.central_report.proofs.central.answer_closed.Given as goal

-- what was taken up when the call began is still taken up
abbrev pub invariant-loop-group : goal.invariant-loop-group
invariant-loop-group l =
    (front : List Summary) (before : ℕ) → before ≤ l.time → HasTaken l.job.names.captures.items (declared_of l.job) l.fn.groups l.fn.written front before
    → (at : ℕ) × (at ≤ l.time) × HasTaken l.job.names.captures.items (declared_of l.job) l.groups l.written front at

abbrev pub decreases-loop-group : goal.decreases-loop-group
decreases-loop-group l = length l.groups.held
