use Rattle.std.proofs.Common.{List, subst, sym}
use Rattle.ds_base.specs.declared.verdict.Answer.{Answer}
use Rattle.merge_state.specs.States.{StateIs}
use Rattle.merge_state.proofs.Stepped as stepped
use Rattle.merge_state.proofs.state.MergeState.take_answer.Goals as goal

pub returns : goal.returns
returns c =
    let d = c.args.self.now in
    stepped.on_ok c.add.result _ _
    (λ is job shape counts taken more gained processor h takes.
    subst (λ (w : List Answer). StateIs job shape.parsers shape.processors counts more gained w d.marks d.profile d.counts.items d.groups d.stage) (sym is)
    (stepped.answer_taken job shape counts taken more gained d.waiting d.marks d.profile d.counts.items d.groups d.stage processor h c.args.answer.now takes))
    c.add.ensures
