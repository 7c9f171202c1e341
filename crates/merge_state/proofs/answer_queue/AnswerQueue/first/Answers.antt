use Rattle.std.proofs.Common.{List, Some, ap, sym, ◌∙◌}
use Rattle.std.specs.Prelude.{slice_get}
use Rattle.ds_base.specs.declared.verdict.Answer.{Answer}
use Rattle.merge_state.proofs.Queues.{first_unboxed}
use Rattle.merge_state.proofs.answer_queue.AnswerQueue.first.Goals as goal

pub returns : goal.returns
returns c =
    ap (λ (xs : List Answer). slice_get xs 0) (sym c.self.view_is)
    ∙ first_unboxed c.self.inside.answers.entries _ c.in_ok-held.held.now c.in_ok-held.ensures.first
    ∙ ap (λ (a : Answer). Some a) (sym c.as_ref.ensures)
