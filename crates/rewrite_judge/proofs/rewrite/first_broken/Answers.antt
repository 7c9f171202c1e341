use Rattle.std.proofs.Common.{ap, sym, not}
use Rattle.rewrite_judge.specs.declared.rule.Rule.{Rule}
use Rattle.rewrite_judge.specs.Rule.{keeps}
use Rattle.rewrite_judge.specs.Rewrite.{first_broken}
use Rattle.rewrite_judge.proofs.Places.{position-pass, position-take}
use Rattle.rewrite_judge.proofs.rewrite.first_broken.Goals as goal

pub returns-then-not-keeps : goal.returns-then-not-keeps
returns-then-not-keeps c =
    position-take (λ (rule : Rule). not (keeps rule (c.args.first.now, c.args.second.now))) c.args.rules.now.items c.loop-i.i c.get.result.now
    (first_broken c.args.rules.now.items (c.args.first.now, c.args.second.now)) c.get.ensures (ap not (sym c.if-not-keeps.ensures)) c.loop-i.invariant

pub loop-i-preserved : goal.loop-i-preserved
loop-i-preserved c =
    position-pass (λ (rule : Rule). not (keeps rule (c.args.first.now, c.args.second.now))) c.args.rules.now.items c.loop-i.i c.get.result.now
    (first_broken c.args.rules.now.items (c.args.first.now, c.args.second.now)) c.get.ensures (ap not (sym c.if-not-keeps.ensures)) c.loop-i.invariant
