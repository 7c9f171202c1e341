-- A turn that was chosen lowers no count.
use Rattle.std.proofs.Common.{◌≡◌, true, false, refl, sym, ◌∙◌}
use Rattle.std.proofs.lemmas.Result.{err_from_is_err_and}
use Rattle.net_law.specs.Rounds.{view}
use Rattle.run_rounds.proofs.Ahead.{none_yet, in_turn}
use Rattle.run_rounds.proofs.Meeting.{meets_now}
use Rattle.run_rounds.proofs.Stepping.{alike_on, alike_self, lowers_none}
use Rattle.run_rounds.specs.declared.node_at.NodeAt.{NodeAt}
use Rattle.run_rounds.proofs.runs.chosen_turns.Goals as goal

pub choices-init : goal.choices-init
choices-init g c = record {
  goes = g.met.N.TakesTurns.stays c.args.nodes.now;
  alike = alike_self (g.N.TakesTurns.net c.args.nodes.now);
  quiet = c.requires.quiet;
  none_falls = none_yet (view (g.N.TakesTurns.net c.args.nodes.now));
  over = λ over. (over, refl, refl);
}

pub choices-preserved : goal.choices-preserved
choices-preserved g c =
    let net = g.N.TakesTurns.net in
    let start = c.args.nodes.now in
    let now = c.choices.nodes in
    let after = c.chosen_turn.new.nodes in
    record {
      goes = g.met.N.TakesTurns.goes_on start now after c.choices.invariant.goes c.chosen_turn.ensures.goes;
      alike = alike_on (net start) (net now) (net after) c.choices.invariant.alike c.chosen_turn.ensures.alike;
      quiet = c.in_ok-chosen_turn.ensures.quiet;
      none_falls =
          in_turn (view (net start)) (view (net now)) (view (net after)) c.choices.invariant.none_falls
          (lowers_none (net now).credits c.in_ok-chosen_turn.ensures.turns.0 _ (view (net now)) (view (net after)) c.in_ok-chosen_turn.ensures.turns.1);
      over = λ over. absurd (let none : c.next_choice.new.chooses ≡ false = (c.next_choice.ensures.over (c.choices.invariant.over over).0).1 in let some : c.next_choice.new.chooses ≡ true = c.in-Some.ensures.some in let differ : true ≡ false = sym some ∙ none in cc);
    }

pub returns-in_err-chosen_turn-clause-goes : goal.returns-in_err-chosen_turn-clause-goes
returns-in_err-chosen_turn-clause-goes g c = g.met.N.TakesTurns.goes_on c.args.nodes.now c.choices.nodes c.chosen_turn.new.nodes c.choices.invariant.goes c.chosen_turn.ensures.goes

pub returns-in_err-chosen_turn-clause-alike : goal.returns-in_err-chosen_turn-clause-alike
returns-in_err-chosen_turn-clause-alike g c =
    let net = g.N.TakesTurns.net in
    alike_on (net c.args.nodes.now) (net c.choices.nodes) (net c.chosen_turn.new.nodes) c.choices.invariant.alike c.chosen_turn.ensures.alike

pub returns-in_err-chosen_turn-clause-over : goal.returns-in_err-chosen_turn-clause-over
returns-in_err-chosen_turn-clause-over g c over =
    absurd (let none : c.next_choice.new.chooses ≡ false = (c.next_choice.ensures.over (c.choices.invariant.over over).0).1 in let some : c.next_choice.new.chooses ≡ true = c.in-Some.ensures.some in let differ : true ≡ false = sym some ∙ none in cc)

pub returns-in_err-chosen_turn-clause-meets : goal.returns-in_err-chosen_turn-clause-meets
returns-in_err-chosen_turn-clause-meets g c =
    let at : NodeAt = c.in_err-chosen_turn.field-0.0 in
    let p = err_from_is_err_and c.from_residual.result c.from_residual.ensures.1 in
    rw (p.1, p.2)
    (meets_now g.row.N.Denot g.N.TakesTurns.net g.N.TakesTurns.Goes g.N.TakesTurns.Meets c.args.nodes.now c.choices.nodes c.chosen_turn.new.nodes at
    c.choices.invariant.goes c.choices.invariant.quiet c.in_err-chosen_turn.ensures.meets)
