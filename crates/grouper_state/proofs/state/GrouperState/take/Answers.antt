use Rattle.std.proofs.Common.{sym, subst}
use Rattle.std.proofs.lemmas.Result.{on_ok_weaker}
use Rattle.node_frames.specs.declared.frame.Frame.{Frame}
use Rattle.grouper_state.specs.States.{MayTake, StateIs, state_is, taken_more}
use Rattle.grouper_state.proofs.Stepped as stepped
use Rattle.grouper_state.proofs.state.GrouperState.take.Goals as goal

pub returns-in-Item : goal.returns-in-Item
returns-in-Item c = record {
  takes = on_ok_weaker c.take_item.result
      (λ said job shape me taken put link h takes.
      subst (λ (f : Frame). state_is job shape me (taken_more taken link f) put c.take_item.new.self) (sym c.in-Item.is)
      (said job shape me taken put link h (subst (λ (f : Frame). MayTake job shape me taken link f) c.in-Item.is takes)))
      c.take_item.ensures.takes;
}

pub returns-in-Mark : goal.returns-in-Mark
returns-in-Mark c = record {
  takes = λ job shape me taken put link h takes.
      subst (λ (f : Frame). state_is job shape me (taken_more taken link f) put c.take_mark.new.self) (sym c.in-Mark.is)
      (c.take_mark.ensures.takes job shape me taken put link h (subst (λ (f : Frame). MayTake job shape me taken link f) c.in-Mark.is takes));
}

pub returns-in-CaptureEnd : goal.returns-in-CaptureEnd
returns-in-CaptureEnd c = record {
  takes = λ job shape me taken put link h takes.
      subst (λ (f : Frame). state_is job shape me (taken_more taken link f) put c.take_capture_end.new.self) (sym c.in-CaptureEnd.is)
      (c.take_capture_end.ensures.takes job shape me taken put link h (subst (λ (f : Frame). MayTake job shape me taken link f) c.in-CaptureEnd.is takes));
}

pub returns-in-Finish : goal.returns-in-Finish
returns-in-Finish c = record {
  takes = λ job shape me taken put link h takes.
      subst (λ (f : Frame). StateIs job shape me (taken_more taken link f) put c.args.self.now.grouper c.args.self.now.going c.args.self.now.turn c.args.self.now.processors c.args.self.now.mark c.args.self.now.finished) (sym c.in-Finish.is)
      (stepped.finish_taken job shape me taken put c.args.self.now.grouper c.args.self.now.going c.args.self.now.turn c.args.self.now.processors c.args.self.now.mark c.args.self.now.finished link h (subst (λ (f : Frame). MayTake job shape me taken link f) c.in-Finish.is takes));
}
