use Rattle.merge_state.proofs.Queues.{boxed, boxed_stamped}
use Rattle.merge_state.proofs.answer_queue.AnswerQueue.add.Goals as goal

pub invariant_of-self-2 : goal.invariant_of-self-2
invariant_of-self-2 c =
    boxed_stamped c.self.inside.answers.entries c.insert.new.self.entries c.args.answer.now c.in-Ok.held c.self.invariant c.in-Ok.ensures.ok c.in-Ok-insert.ensures.entries

pub returns : goal.returns
returns c =
    boxed c.self.inside.answers.entries c.insert.new.self.entries c.args.self.now c.args.answer.now c.in-Ok.held c.self.view_is c.self.invariant c.in-Ok.ensures.ok c.in-Ok-insert.ensures.entries
