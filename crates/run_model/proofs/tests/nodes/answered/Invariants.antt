-- The state stands for the frames that were taken.
use Rattle.summary_spec.specs.Job.{declared_of}
use Rattle.run_model.specs.Stands.{Stands}
use Rattle.run_model.proofs.tests.nodes.answered.Given as goal

abbrev pub invariant-loop-link : goal.invariant-loop-link
invariant-loop-link l = Stands (declared_of l.job) l.lanes.items l.state

abbrev pub invariant-due : goal.invariant-due
invariant-due l = Stands (declared_of l.job) l.lanes.items l.state
