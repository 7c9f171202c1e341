-- No turn so far lowered a count or met a fault; and where nothing was chosen any more, nothing was asked or turned.
use Rattle.std.proofs.Common.{◌≡◌, false}
use Rattle.round_law.specs.Measure.{NoneFalls}
use Rattle.net_law.specs.Turned.{IsAlike}
use Rattle.net_law.specs.Rounds.{view, NoneHasFault}
use Rattle.run_rounds.proofs.runs.chosen_turns.Given as goal

abbrev pub invariant-choices : goal.invariant-choices
invariant-choices g l = record {
  goes : g.N.TakesTurns.Goes l.fn.nodes l.nodes;
  alike : IsAlike (g.N.TakesTurns.net l.fn.nodes) (g.N.TakesTurns.net l.nodes);
  quiet : NoneHasFault (g.N.TakesTurns.net l.nodes);
  none_falls : NoneFalls (view (g.N.TakesTurns.net l.fn.nodes)) (view (g.N.TakesTurns.net l.nodes));
  over : l.fn.chooses ≡ false → (l.chooses ≡ false) × (l.chooser ≡ l.fn.chooser) × (l.nodes ≡ l.fn.nodes);
}
