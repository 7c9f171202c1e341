use Rattle.std.proofs.Common.{sym, ◌∙◌, subst}
use Rattle.ds_base.specs.declared.verdict.Verdict.{Verdict}
use Rattle.rewrite_judge.specs.Rewrite.{IsRewriteVerdict}
use Rattle.rewrite_judge.proofs.Breaks.{rewrite_verdict-is, rewrite_only}
use Rattle.rewrite_judge.proofs.rewrite.judge_rewrite.Goals as goal

pub returns-clause-verdict : goal.returns-clause-verdict
returns-clause-verdict c =
    let P : Verdict → Type 0 = IsRewriteVerdict c.args.from c.args.to c.args.rules.now.items c.args.group.now.members.items in
    subst P (sym c.first_rewrite.ensures) (rewrite_verdict-is c.args.from c.args.to c.args.rules.now.items c.args.group.now.members.items)

pub returns-clause-only : goal.returns-clause-only
returns-clause-only c other h =
    rewrite_only c.args.from c.args.to c.args.rules.now.items c.args.group.now.members.items other h ∙ sym c.first_rewrite.ensures
