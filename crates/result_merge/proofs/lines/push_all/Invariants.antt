-- The lines pushed so far; the loop ends, since few can still be pushed.
use Rattle.summary_spec.specs.Job.{declared_of}
use Rattle.merge_state.specs.Promised.{Pushes, lines_left}
use Rattle.result_merge.proofs.lines.push_all.Given as goal

abbrev pub invariant-lines : goal.invariant-lines
invariant-lines l = Pushes (declared_of l.job) l.fn.state l.state l.fn.text.items l.text.items

abbrev pub decreases-lines : goal.decreases-lines
decreases-lines l = lines_left l.state
