-- One node more has its turn; and what the round comes to.
use Rattle.std.proofs.Common.{ℕ, ◌≡◌, ◌+◌, ◌<◌, Bool, sym, subst, arith}
use Rattle.std.proofs.lemmas.Result.{err_from_is_err_and}
use Rattle.run_rounds.specs.declared.node_at.NodeAt.{NodeAt}
use Rattle.run_rounds.specs.Faults.{node_count}
use Rattle.run_rounds.specs.Rounds.{HadTurns, RoundSoFar}
use Rattle.run_rounds.proofs.Looks.{none_met}
use Rattle.run_rounds.proofs.Meeting.{meets_now}
use Rattle.run_rounds.proofs.Stepping.{alike_on, begins, count_same, moves_ahead, one_more, still_done}
use Rattle.run_rounds.proofs.rounds.round.Goals as goal

pub nodes-init : goal.nodes-init
nodes-init g c =
    let net = g.N.TakesTurns.net in
    record {
      goes = g.met.N.TakesTurns.stays c.begin_round-count.new.nodes;
      so_far = begins (net c.begin_round-count.new.nodes) c.begin_round-count.ensures.stands (none_met (net c.args.nodes.now) (net c.begin_round-count.new.nodes) c.begin_round-count.ensures.looks c.requires.quiet);
    }

pub turn_at-requires-clause-there : goal.turn_at-requires-clause-there
turn_at-requires-clause-there g c =
    let net = g.N.TakesTurns.net in
    let same : node_count (net c.nodes.nodes) ≡ node_count (net c.begin_round-count.new.nodes) = count_same (net c.begin_round-count.new.nodes) (net c.nodes.nodes) c.nodes.invariant.so_far.alike in
    omega (arith, same, c.begin_round-count.ensures.count)

pub turn_at-requires-clause-quiet : goal.turn_at-requires-clause-quiet
turn_at-requires-clause-quiet g c = c.nodes.invariant.so_far.quiet

pub nodes-preserved : goal.nodes-preserved
nodes-preserved g c =
    let net = g.N.TakesTurns.net in
    let start = c.begin_round-count.new.nodes in
    let now = c.nodes.nodes in
    let after = c.turn_at.new.nodes in
    let same : node_count (net now) ≡ node_count (net start) = count_same (net start) (net now) c.nodes.invariant.so_far.alike in
    let there : c.nodes.node < node_count (net now) = omega (arith, same, c.begin_round-count.ensures.count) in
    record {
      goes = g.met.N.TakesTurns.goes_on start now after c.nodes.invariant.goes c.turn_at.ensures.goes;
      so_far =
          subst (λ (b : Bool). RoundSoFar (c.nodes.node + 1) b (net start) (net after)) (sym c.moved_with-moved.ensures)
          (one_more c.nodes.node c.nodes.moved c.in_ok-turn.turn (net start) (net now) (net after) there c.nodes.invariant.so_far c.turn_at.ensures.stands c.in_ok-turn.ensures.quiet c.turn_at.ensures.alike c.in_ok-turn.ensures.turns);
    }

-- ---- a fault

pub returns-in_err-turn-clause-goes : goal.returns-in_err-turn-clause-goes
returns-in_err-turn-clause-goes g c =
    let goes_on = g.met.N.TakesTurns.goes_on in
    goes_on c.args.nodes.now c.nodes.nodes c.turn_at.new.nodes (goes_on c.args.nodes.now c.begin_round-count.new.nodes c.nodes.nodes c.begin_round-count.ensures.goes c.nodes.invariant.goes) c.turn_at.ensures.goes

pub returns-in_err-turn-clause-alike : goal.returns-in_err-turn-clause-alike
returns-in_err-turn-clause-alike g c =
    let net = g.N.TakesTurns.net in
    alike_on (net c.args.nodes.now) (net c.nodes.nodes) (net c.turn_at.new.nodes)
    (alike_on (net c.args.nodes.now) (net c.begin_round-count.new.nodes) (net c.nodes.nodes) c.begin_round-count.ensures.looks.alike c.nodes.invariant.so_far.alike) c.turn_at.ensures.alike

pub returns-in_err-turn-clause-meets : goal.returns-in_err-turn-clause-meets
returns-in_err-turn-clause-meets g c =
    let at : NodeAt = c.in_err-turn.field-0.0 in
    let p = err_from_is_err_and c.from_residual.result c.from_residual.ensures.1 in
    rw (p.1, p.2)
    (meets_now g.row.N.Denot g.N.TakesTurns.net g.N.TakesTurns.Goes g.N.TakesTurns.Meets c.args.nodes.now c.nodes.nodes c.turn_at.new.nodes at
    (g.met.N.TakesTurns.goes_on c.args.nodes.now c.begin_round-count.new.nodes c.nodes.nodes c.begin_round-count.ensures.goes c.nodes.invariant.goes) c.nodes.invariant.so_far.quiet c.in_err-turn.ensures.meets)

-- ---- the end

pub returns-clause-goes : goal.returns-clause-goes
returns-clause-goes g c = g.met.N.TakesTurns.goes_on c.args.nodes.now c.begin_round-count.new.nodes c.nodes.nodes c.begin_round-count.ensures.goes c.nodes.invariant.goes

pub returns-clause-alike : goal.returns-clause-alike
returns-clause-alike g c =
    let net = g.N.TakesTurns.net in
    alike_on (net c.args.nodes.now) (net c.begin_round-count.new.nodes) (net c.nodes.nodes) c.begin_round-count.ensures.looks.alike c.nodes.invariant.so_far.alike

pub returns-clause-each : goal.returns-clause-each
returns-clause-each g c =
    let net = g.N.TakesTurns.net in
    let start = net c.begin_round-count.new.nodes in
    let all : c.nodes.node ≡ node_count start = omega (arith, c.begin_round-count.ensures.count) in
    (start, c.begin_round-count.ensures.looks, subst (λ (n : ℕ). HadTurns n start (net c.nodes.nodes)) all c.nodes.invariant.so_far.turns)

pub returns-clause-lowers : goal.returns-clause-lowers
returns-clause-lowers g c is =
    let net = g.N.TakesTurns.net in
    let start = net c.begin_round-count.new.nodes in
    moves_ahead start c.begin_round-count.ensures.stands (none_met (net c.args.nodes.now) start c.begin_round-count.ensures.looks c.requires.quiet) c.begin_round-count.ensures.looked
    (net c.args.nodes.now) (net c.nodes.nodes) c.nodes.node c.nodes.moved c.begin_round-count.ensures.looks c.nodes.invariant.so_far is

pub returns-clause-done : goal.returns-clause-done
returns-clause-done g c is =
    let net = g.N.TakesTurns.net in
    let start = net c.begin_round-count.new.nodes in
    let all : c.nodes.node ≡ node_count start = omega (arith, c.begin_round-count.ensures.count) in
    still_done start c.begin_round-count.ensures.stands (none_met (net c.args.nodes.now) start c.begin_round-count.ensures.looks c.requires.quiet) c.begin_round-count.ensures.looked (net c.nodes.nodes) c.nodes.moved
    (subst (λ (n : ℕ). RoundSoFar n c.nodes.moved start (net c.nodes.nodes)) all c.nodes.invariant.so_far) is
