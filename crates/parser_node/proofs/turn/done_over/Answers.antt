-- The end was not put, some link is not settled, or all are.
use Rattle.std.proofs.Common.{◌≡◌, true, false, sym, ◌∙◌, rules}
use Rattle.parser_node.proofs.Settled.{settled_done, done_settled, done_finished}
use Rattle.parser_node.proofs.turn.done_over.Goals as goal

pub returns-then-not-finished-clause-not : goal.returns-then-not-finished-clause-not
returns-then-not-finished-clause-not g c is done =
    let none : c.finished.result ≡ false = search rules in
    done_finished c.args.steps.now c.args.out.now c.requires.holds done (sym c.finished.ensures ∙ none)

pub returns-clause-done : goal.returns-clause-done
returns-clause-done g c is =
    let put : c.finished.result ≡ true = search rules in
    settled_done c.args.steps.now c.args.out.now c.requires.holds (sym c.finished.ensures ∙ put) (c.settled.ensures.settled is)

pub returns-clause-not : goal.returns-clause-not
returns-clause-not g c is done = done_settled c.args.steps.now c.args.out.now c.requires.holds done (c.settled.ensures.not is)
