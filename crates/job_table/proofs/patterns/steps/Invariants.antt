use Rattle.std.proofs.Common.{◌≡◌, ◌+◌, [], length, All}
use Rattle.job_values.specs.Parsed.{shown}
use Rattle.job_table.specs.Limits.{StepBelow}
use Rattle.job_table.specs.QueryTable.{steps}
use Rattle.job_table.specs.Words.{words}
use Rattle.job_table.proofs.patterns.steps.Given as goal

abbrev pub invariant-loop-rest : goal.invariant-loop-rest
invariant-loop-rest l =
    (steps l.index (shown l.captures.items) [] (words l.text) ≡ steps l.index (shown l.captures.items) l.path (words l.rest))
    × (length l.path + length (words l.rest) ≡ length (words l.text)) × All (StepBelow (length l.captures.items)) l.path

abbrev pub decreases-loop-rest : goal.decreases-loop-rest
decreases-loop-rest l = length l.rest
