use Rattle.std.proofs.Common.{ℕ, ◌<◌, ◌≤◌, Option, Some, None, sym, subst, arith, ◌∙◌, ap}
use Rattle.std.proofs.lemmas.Bool.{ltb-true, ltb-false}
use Rattle.net_law.specs.Parsers.{IsBehind, FromNone, FromSome}
use Rattle.parser_captures.proofs.Choosing.{behind_both}
use Rattle.parser_captures.proofs.choice.comes_first.Goals as goal

pub returns-in_default-None-clause-other : goal.returns-in_default-None-clause-other
returns-in_default-None-clause-other c h = subst (λ (o : Option ℕ). IsBehind o c.args.time) (sym c.in_default-None.is-1) (FromNone c.args.time)

pub returns-in-None-Some-clause-first : goal.returns-in-None-Some-clause-first
returns-in-None-Some-clause-first c h = subst (λ (o : Option ℕ). IsBehind o c.args.other) (sym c.in-None-Some.is-0) (FromNone c.args.other)

pub returns-in-Some-Some-clause-first : goal.returns-in-Some-Some-clause-first
returns-in-Some-Some-clause-first c h =
    behind_both c.args.time c.args.other c.in-Some-Some.time c.in-Some-Some.other c.in-Some-Some.is-0 c.in-Some-Some.is-1 (omega (arith, ltb-true c.in-Some-Some.time c.in-Some-Some.other h))

pub returns-in-Some-Some-clause-other : goal.returns-in-Some-Some-clause-other
returns-in-Some-Some-clause-other c h =
    behind_both c.args.other c.args.time c.in-Some-Some.other c.in-Some-Some.time c.in-Some-Some.is-1 c.in-Some-Some.is-0 (omega (arith, ltb-false c.in-Some-Some.time c.in-Some-Some.other h))
