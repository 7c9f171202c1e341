-- The node of a choice is one of the nodes, and its cut at least 1.
use Rattle.std.proofs.Common.{ℕ, ◌≡◌, ◌%◌, ◌<◌, subst, sym, arith}
use Rattle.std.proofs.lemmas.Nat.{mod_below}
use Rattle.std.proofs.lemmas.Result.{err_from_is_err_and}
use Rattle.credit_link.specs.declared.turn.Turn.{Turn}
use Rattle.round_law.specs.Turns.{IsTurn}
use Rattle.net_law.specs.Rounds.{view, RowOf}
use Rattle.run_rounds.specs.Faults.{node_count}
use Rattle.run_rounds.specs.declared.node_at.NodeAt.{NodeAt}
use Rattle.run_rounds.proofs.runs.chosen_turn.Goals as goal

pub nonzero_rem-node : goal.nonzero_rem-node
nonzero_rem-node g c = omega (arith, c.node_count.ensures.count)

pub turn_at-requires-clause-there : goal.turn_at-requires-clause-there
turn_at-requires-clause-there g c =
    let count = node_count (g.N.TakesTurns.net c.args.nodes.now) in
    subst (λ (n : ℕ). c.args.choice.node % n < count) (sym c.node_count.ensures.count) (mod_below c.args.choice.node count (omega arith))

pub returns-clause-turns : goal.returns-clause-turns
returns-clause-turns g c =
    let net = g.N.TakesTurns.net in
    let before = net c.args.nodes.now in
    let after = net c.turn_at.new.nodes in
    let turn : Turn = c.in_ok-turn_at.field-0 in
    (turn, subst (λ (n : ℕ). IsTurn (RowOf before.credits turn) (c.args.choice.node % n) (view before) (view after)) c.node_count.ensures.count c.in_ok-turn_at.ensures.turns)

pub returns-in_err-turn_at-clause-named : goal.returns-in_err-turn_at-clause-named
returns-in_err-turn_at-clause-named g c =
    let at : NodeAt = c.in_err-turn_at.field-0.0 in
    let p = err_from_is_err_and c.from_residual.result c.from_residual.ensures.1 in
    rw (p.1, p.2) (subst (λ (n : ℕ). at.node ≡ c.args.choice.node % n) c.node_count.ensures.count c.in_err-turn_at.ensures.named)
