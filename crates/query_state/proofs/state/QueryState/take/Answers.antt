use Rattle.std.proofs.Common.{List, ◌++◌, sym, subst}
use Rattle.std.proofs.lemmas.Result.{IfOk-weaker}
use Rattle.node_frames.specs.declared.frame.Frame.{Frame}
use Rattle.node_frames.specs.declared.frame.Frame.TheVariants.{Member}
use Rattle.summary_spec.specs.Job.{declared_of}
use Rattle.run_law.specs.Links.{GroupRule}
use Rattle.query_state.specs.States.{MayTake, answer_frames, state_is, taken_more, taken_on}
use Rattle.query_state.proofs.Stepped as stepped
use Rattle.query_state.proofs.state.QueryState.take.Goals as goal

pub returns-in-GroupHead : goal.returns-in-GroupHead
returns-in-GroupHead c = record {
  takes = λ taken put h takes.
      stepped.puts_nothing (declared_of c.args.job.now) (taken_more taken c.args.link c.args.frame.now) put c.take_head.new.self.lanes.items c.take_head.new.self.marks c.take_head.new.self.profile c.take_head.new.self.mark c.take_head.new.self.next c.take_head.new.self.finished
      (subst (λ (f : Frame). state_is (declared_of c.args.job.now) (taken_more taken c.args.link f) put c.take_head.new.self) (sym c.in-GroupHead.is)
      (c.take_head.ensures.takes (declared_of c.args.job.now) taken put h (subst (λ (f : Frame). MayTake (declared_of c.args.job.now) taken c.args.link f) c.in-GroupHead.is takes)));
}

pub returns-in-GroupMark : goal.returns-in-GroupMark
returns-in-GroupMark c = record {
  takes = λ taken put h takes.
      stepped.puts_nothing (declared_of c.args.job.now) (taken_more taken c.args.link c.args.frame.now) put c.take_mark.new.self.lanes.items c.take_mark.new.self.marks c.take_mark.new.self.profile c.take_mark.new.self.mark c.take_mark.new.self.next c.take_mark.new.self.finished
      (subst (λ (f : Frame). state_is (declared_of c.args.job.now) (taken_more taken c.args.link f) put c.take_mark.new.self) (sym c.in-GroupMark.is)
      (c.take_mark.ensures.takes (declared_of c.args.job.now) taken put h (subst (λ (f : Frame). MayTake (declared_of c.args.job.now) taken c.args.link f) c.in-GroupMark.is takes)));
}

pub returns-in-Finish : goal.returns-in-Finish
returns-in-Finish c = record {
  takes = λ taken put h takes.
      stepped.puts_nothing (declared_of c.args.job.now) (taken_more taken c.args.link c.args.frame.now) put c.take_end.new.self.lanes.items c.take_end.new.self.marks c.take_end.new.self.profile c.take_end.new.self.mark c.take_end.new.self.next c.take_end.new.self.finished
      (subst (λ (f : Frame). state_is (declared_of c.args.job.now) (taken_more taken c.args.link f) put c.take_end.new.self) (sym c.in-Finish.is)
      (c.take_end.ensures.takes (declared_of c.args.job.now) taken put h (subst (λ (f : Frame). MayTake (declared_of c.args.job.now) taken c.args.link f) c.in-Finish.is takes)));
}

pub returns-in-Member : goal.returns-in-Member
returns-in-Member c = record {
  takes = IfOk-weaker c.take_member.result
      (λ answer. (taken : List (List Frame)) (put : List Frame) → state_is (declared_of c.args.job.now) taken put c.args.self.now → MayTake (declared_of c.args.job.now) taken c.args.link (Member c.in-Member.at c.in-Member.vals)
      → state_is (declared_of c.args.job.now) (taken_more taken c.args.link (Member c.in-Member.at c.in-Member.vals)) (put ++ answer_frames answer) c.take_member.new.self)
      (λ answer. (taken : List (List Frame)) (put : List Frame) → state_is (declared_of c.args.job.now) taken put c.args.self.now → MayTake (declared_of c.args.job.now) taken c.args.link c.args.frame.now
      → state_is (declared_of c.args.job.now) (taken_more taken c.args.link c.args.frame.now) (put ++ answer_frames answer) c.take_member.new.self)
      (λ answer said taken put h takes.
      subst (λ (f : Frame). state_is (declared_of c.args.job.now) (taken_more taken c.args.link f) (put ++ answer_frames answer) c.take_member.new.self) (sym c.in-Member.is)
      (said taken put h (subst (λ (f : Frame). MayTake (declared_of c.args.job.now) taken c.args.link f) c.in-Member.is takes)))
      c.take_member.ensures.takes;
}

pub returns-in-Item : goal.returns-in-Item
returns-in-Item c = record {
  takes = λ taken put h takes. absurd (subst (λ (f : Frame). GroupRule (declared_of c.args.job.now) (taken_on taken c.args.link) f) c.in-Item.is takes.may.own);
}

pub returns-in-Mark : goal.returns-in-Mark
returns-in-Mark c = record {
  takes = λ taken put h takes. absurd (subst (λ (f : Frame). GroupRule (declared_of c.args.job.now) (taken_on taken c.args.link) f) c.in-Mark.is takes.may.own);
}

pub returns-in-CaptureEnd : goal.returns-in-CaptureEnd
returns-in-CaptureEnd c = record {
  takes = λ taken put h takes. absurd (subst (λ (f : Frame). GroupRule (declared_of c.args.job.now) (taken_on taken c.args.link) f) c.in-CaptureEnd.is takes.may.own);
}

pub returns-in-AnswerRow : goal.returns-in-AnswerRow
returns-in-AnswerRow c = record {
  takes = λ taken put h takes. absurd (subst (λ (f : Frame). GroupRule (declared_of c.args.job.now) (taken_on taken c.args.link) f) c.in-AnswerRow.is takes.may.own);
}

pub returns-in-Profile : goal.returns-in-Profile
returns-in-Profile c = record {
  takes = λ taken put h takes. absurd (subst (λ (f : Frame). GroupRule (declared_of c.args.job.now) (taken_on taken c.args.link) f) c.in-Profile.is takes.may.own);
}

pub returns-in-CountsRow : goal.returns-in-CountsRow
returns-in-CountsRow c = record {
  takes = λ taken put h takes. absurd (subst (λ (f : Frame). GroupRule (declared_of c.args.job.now) (taken_on taken c.args.link) f) c.in-CountsRow.is takes.may.own);
}
