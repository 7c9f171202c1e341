use Rattle.std.proofs.Common.{◌≡◌, ◌++◌, rules}
use Rattle.query_state.specs.States.{MayTake, answer_frames, taken_more}
use Rattle.summary_spec.specs.Job.{declared_of}
use Rattle.run_model.proofs.tests.nodes.take_frame.Goals as goal

pub returns : goal.returns
returns c =
    let job = declared_of c.args.job.now in
    let old = c.args.lanes.now.items in
    let may : MayTake job old c.args.link c.args.frame.now = search rules in
    let kept : c.admit_at.new.lanes.items ≡ taken_more old c.args.link c.args.frame.now = search rules in
    record {
      put = c.requires.put ++ answer_frames c.in_ok-answer.answer;
      is = rw kept (c.in_ok-answer.ensures.takes old c.requires.put c.requires.is may);
    }
