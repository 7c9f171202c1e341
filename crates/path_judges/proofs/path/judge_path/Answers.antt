use Rattle.std.proofs.Common.{sym, ◌∙◌, subst}
use Rattle.ds_base.specs.declared.verdict.Verdict.{Verdict}
use Rattle.path_judges.specs.Members.{walk_of}
use Rattle.path_judges.specs.Path.{IsPathVerdict}
use Rattle.path_judges.proofs.Allowed.{path_verdict-is, path_only}
use Rattle.path_judges.proofs.path.judge_path.Goals as goal

pub returns-clause-verdict : goal.returns-clause-verdict
returns-clause-verdict c =
    let P : Verdict → Type 0 = IsPathVerdict c.args.allow.now.items (walk_of c.args.group.now.members.items) in
    subst P (sym c.best_path.ensures) (path_verdict-is c.args.allow.now.items (walk_of c.args.group.now.members.items) c.requires.some_pattern)

pub returns-clause-only : goal.returns-clause-only
returns-clause-only c other h =
    path_only c.args.allow.now.items (walk_of c.args.group.now.members.items) c.requires.some_pattern other h ∙ sym c.best_path.ensures
