use Rattle.std.proofs.Common.{[]}
use Rattle.summary_spec.specs.Job.{declared_of}
use Rattle.run_model.proofs.tests.nodes.answered.Goals as goal
use Rattle.run_model.proofs.tests.nodes.answered.Goals.{then-eq+then-link-processor+in_ok-answer+else-due-test, then-eq+then-link-processor+in_ok-answer+then-due-test+in_default-next_due, else-eq}

pub loop-link-init : goal.loop-link-init
loop-link-init c = record {
  put = [];
  is = rw c.in_ok-lanes.ensures (c.in_ok-state.ensures (declared_of c.args.job.now) c.args.job.now.lawful);
}

pub loop-link-preserved : goal.loop-link-preserved
loop-link-preserved c =
    elim c.if-eq.branch [
      | then-eq+then-link-processor+in_ok-answer+else-due-test w ↦ rw (w.lanes-is, w.state-is) w.due.invariant
      | then-eq+then-link-processor+in_ok-answer+then-due-test+in_default-next_due w ↦ rw (w.lanes-is, w.state-is) (w.next_due.ensures (declared_of c.args.job.now) _ w.due.invariant)
      | else-eq w ↦ rw (w.lanes-is, w.state-is) c.loop-link.invariant
    ]
