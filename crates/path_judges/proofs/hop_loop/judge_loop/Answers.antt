use Rattle.std.proofs.Common.{sym, ◌∙◌, subst}
use Rattle.ds_base.specs.declared.verdict.Verdict.{Verdict}
use Rattle.path_judges.specs.Loop.{IsLoopVerdict}
use Rattle.path_judges.proofs.FirstFall.{loop_verdict-is, loop_only}
use Rattle.path_judges.proofs.hop_loop.judge_loop.Goals as goal

pub returns-clause-verdict : goal.returns-clause-verdict
returns-clause-verdict c =
    let P : Verdict → Type 0 = IsLoopVerdict c.args.hop c.args.group.now.members.items in
    subst P (sym c.first_loop.ensures) (loop_verdict-is c.args.hop c.args.group.now.members.items)

pub returns-clause-only : goal.returns-clause-only
returns-clause-only c other h = loop_only c.args.hop c.args.group.now.members.items other h ∙ sym c.first_loop.ensures
