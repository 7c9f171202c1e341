use Rattle.parser_captures.specs.Choice.{IsBest}
use Rattle.parser_captures.proofs.choice.choose.Given as goal

-- the best of those before
abbrev pub invariant-captures : goal.invariant-captures
invariant-captures l = IsBest l.captures.items l.i l.best
