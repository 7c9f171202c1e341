-- The nodes so far had their turns, after the look.
use Rattle.run_rounds.specs.Rounds.{RoundSoFar}
use Rattle.run_rounds.proofs.rounds.round.Given as goal

abbrev pub invariant-nodes : goal.invariant-nodes
invariant-nodes g l = record {
  goes : g.N.TakesTurns.Goes l.initial.nodes l.nodes;
  so_far : RoundSoFar l.node l.moved (g.N.TakesTurns.net l.initial.nodes) (g.N.TakesTurns.net l.nodes);
}
