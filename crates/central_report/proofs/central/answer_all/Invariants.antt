use Rattle.std.proofs.Common.{drop}
use Rattle.summary_spec.specs.Job.{declared_of}
use Rattle.central_report.proofs.Underway.{IsUnderway}
use Rattle.central_report.proofs.central.answer_all.Given as goal

abbrev pub invariant-loop-place : goal.invariant-loop-place
invariant-loop-place l =
    IsUnderway l.job.names.captures.items (declared_of l.job) l.list.items (drop l.place-index l.places) l.groups l.written
