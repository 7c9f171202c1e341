use Rattle.std.proofs.Common.{subst}
use Rattle.node_frames.specs.declared.frame.Frame.{Frame}
use Rattle.merge_state.specs.States.{TakesAnswers}
use Rattle.merge_state.proofs.Stepped as stepped
use Rattle.merge_state.proofs.state.MergeState.take_answers.Goals as goal

pub returns-in-AnswerRow : goal.returns-in-AnswerRow
returns-in-AnswerRow c =
    stepped.on_ok c.take_answer.result _ _
    (λ said job shape counts taken more gained h takes.
    said job shape counts taken more gained c.args.processor h (subst (λ (f : Frame). TakesAnswers job shape taken more c.args.processor f) c.in-AnswerRow.is takes))
    c.take_answer.ensures

pub returns-in-GroupMark : goal.returns-in-GroupMark
returns-in-GroupMark c = λ job shape counts taken more gained h takes.
    c.take_mark.ensures job shape counts taken more gained h (subst (λ (f : Frame). TakesAnswers job shape taken more c.args.processor f) c.in-GroupMark.is takes)

pub returns-in-Profile : goal.returns-in-Profile
returns-in-Profile c =
    stepped.on_ok c.take_row.result _ _
    (λ said job shape counts taken more gained h takes.
    said job shape counts taken more gained c.args.processor h (subst (λ (f : Frame). TakesAnswers job shape taken more c.args.processor f) c.in-Profile.is takes))
    c.take_row.ensures

pub returns-in-Finish : goal.returns-in-Finish
returns-in-Finish c = λ job shape counts taken more gained h takes.
    c.take_end.ensures job shape counts taken more gained h (subst (λ (f : Frame). TakesAnswers job shape taken more c.args.processor f) c.in-Finish.is takes)
