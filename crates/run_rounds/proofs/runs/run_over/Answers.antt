-- How a run begins, goes on and ends.
use Rattle.std.proofs.Common.{rules, refl, inl, inr}
use Rattle.std.proofs.lemmas.Result.{err_from_is_err_and}
use Rattle.net_law.proofs.Done.{done_nodes_are_done}
use Rattle.run_rounds.specs.declared.node_at.NodeAt.{NodeAt}
use Rattle.run_rounds.specs.Runs.{AllAreDone, ahead_of}
use Rattle.run_rounds.proofs.Ahead.{below}
use Rattle.run_rounds.proofs.Meeting.{meets_later}
use Rattle.run_rounds.proofs.Stepping.{no_more_left}
use Rattle.run_rounds.proofs.runs.run_over.Goals as goal

pub returns-in-Some-clause-goes : goal.returns-in-Some-clause-goes
returns-in-Some-clause-goes g c = g.met.N.TakesTurns.stays c.args.nodes.now

pub returns-in-Some-clause-meets : goal.returns-in-Some-clause-meets
returns-in-Some-clause-meets g c = inl (refl, c.in-Some.ensures.some)

pub rounds-init : goal.rounds-init
rounds-init g c = record { goes = g.met.N.TakesTurns.stays c.args.nodes.now; quiet = c.fault.ensures.none.0 (search rules) }

-- ---- the turns that were chosen

pub returns-in_err-chosen_turns-clause-goes : goal.returns-in_err-chosen_turns-clause-goes
returns-in_err-chosen_turns-clause-goes g c = g.met.N.TakesTurns.goes_on c.args.nodes.now c.rounds.nodes c.chosen_turns.new.nodes c.rounds.invariant.goes c.chosen_turns.ensures.goes

pub returns-in_err-chosen_turns-clause-meets : goal.returns-in_err-chosen_turns-clause-meets
returns-in_err-chosen_turns-clause-meets g c =
    let at : NodeAt = c.in_err-chosen_turns.field-0.0 in
    let p = err_from_is_err_and c.from_residual.result c.from_residual.ensures.1 in
    rw (p.1, p.2)
    (inr (meets_later g.row.N.Denot g.N.TakesTurns.net g.N.TakesTurns.Goes g.N.TakesTurns.Meets g.met.N.TakesTurns.goes_on c.args.nodes.now c.rounds.nodes c.chosen_turns.new.nodes at c.rounds.invariant.goes
    c.in_err-chosen_turns.ensures.meets))

-- ---- the round

pub returns-in_err-moved-clause-goes : goal.returns-in_err-moved-clause-goes
returns-in_err-moved-clause-goes g c =
    let goes_on = g.met.N.TakesTurns.goes_on in
    goes_on c.args.nodes.now c.chosen_turns.new.nodes c.round.new.nodes (goes_on c.args.nodes.now c.rounds.nodes c.chosen_turns.new.nodes c.rounds.invariant.goes c.chosen_turns.ensures.goes) c.round.ensures.goes

pub returns-in_err-moved-clause-meets : goal.returns-in_err-moved-clause-meets
returns-in_err-moved-clause-meets g c =
    let at : NodeAt = c.in_err-moved.field-0.0 in
    let p = err_from_is_err_and c.from_residual-in_err-moved.result c.from_residual-in_err-moved.ensures.1 in
    rw (p.1, p.2)
    (inr (meets_later g.row.N.Denot g.N.TakesTurns.net g.N.TakesTurns.Goes g.N.TakesTurns.Meets g.met.N.TakesTurns.goes_on c.args.nodes.now c.chosen_turns.new.nodes c.round.new.nodes at
    (g.met.N.TakesTurns.goes_on c.args.nodes.now c.rounds.nodes c.chosen_turns.new.nodes c.rounds.invariant.goes c.chosen_turns.ensures.goes) c.in_err-moved.ensures.meets))

pub rounds-smaller : goal.rounds-smaller
rounds-smaller g c =
    let net = g.N.TakesTurns.net in
    below (ahead_of (net c.round.new.nodes)) (ahead_of (net c.chosen_turns.new.nodes)) (ahead_of (net c.rounds.nodes)) (c.in_ok-moved.ensures.lowers (search rules))
    (no_more_left (net c.rounds.nodes) (net c.chosen_turns.new.nodes) c.chosen_turns.ensures.alike c.in_ok-chosen_turns.ensures.none_falls)

pub rounds-preserved : goal.rounds-preserved
rounds-preserved g c =
    let goes_on = g.met.N.TakesTurns.goes_on in
    record {
      goes = goes_on c.args.nodes.now c.chosen_turns.new.nodes c.round.new.nodes (goes_on c.args.nodes.now c.rounds.nodes c.chosen_turns.new.nodes c.rounds.invariant.goes c.chosen_turns.ensures.goes) c.round.ensures.goes;
      quiet = c.in_ok-moved.ensures.quiet;
    }

-- ---- the end

pub returns-then-not-moved-clause-goes : goal.returns-then-not-moved-clause-goes
returns-then-not-moved-clause-goes g c =
    let goes_on = g.met.N.TakesTurns.goes_on in
    goes_on c.args.nodes.now c.chosen_turns.new.nodes c.round.new.nodes (goes_on c.args.nodes.now c.rounds.nodes c.chosen_turns.new.nodes c.rounds.invariant.goes c.chosen_turns.ensures.goes) c.round.ensures.goes

pub returns-then-not-moved-clause-over : goal.returns-then-not-moved-clause-over
returns-then-not-moved-clause-over g c start =
    let net = g.N.TakesTurns.net in
    let all : AllAreDone (net c.round.new.nodes) = c.in_ok-moved.ensures.done (search rules) in
    done_nodes_are_done (net c.round.new.nodes) start c.round.ensures.stands all.0 all.1

pub returns-clause-over : goal.returns-clause-over
returns-clause-over g c start =
    let net = g.N.TakesTurns.net in
    let all : AllAreDone (net c.rounds.nodes) = c.done.ensures.done (search rules) in
    done_nodes_are_done (net c.rounds.nodes) start c.done.ensures.stands all.0 all.1
