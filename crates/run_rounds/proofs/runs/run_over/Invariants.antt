-- No turn so far met a fault; and each round but the last lowers what is ahead.
use Rattle.net_law.specs.Rounds.{NoneHasFault}
use Rattle.run_rounds.specs.Runs.{ahead_of}
use Rattle.run_rounds.proofs.runs.run_over.Given as goal

abbrev pub invariant-rounds : goal.invariant-rounds
invariant-rounds g l = record {
  goes : g.N.TakesTurns.Goes l.fn.nodes l.nodes;
  quiet : NoneHasFault (g.N.TakesTurns.net l.nodes);
}

abbrev pub decreases-rounds : goal.decreases-rounds
decreases-rounds g l = ahead_of (g.N.TakesTurns.net l.nodes)
