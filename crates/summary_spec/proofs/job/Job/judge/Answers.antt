use Rattle.std.proofs.Common.{◌∙◌}
use Rattle.summary_spec.proofs.Judged.{rules_below, verdict_bare, only_bare, value_bare}
use Rattle.summary_spec.proofs.job.Job.judge.Goals as goal

pub judge_rewrite-requires-clause-values : goal.judge_rewrite-requires-clause-values
judge_rewrite-requires-clause-values c =
    rules_below c.args.self.now.names.vars.items _ c.in-Rewrite.from c.in-Rewrite.to c.in-Rewrite.rules.items c.args.group.now.members.items
    (rw c.in-Rewrite.is at c.args.self.now.lawful.query) c.requires.values

pub returns-in-Rewrite-clause-verdict : goal.returns-in-Rewrite-clause-verdict
returns-in-Rewrite-clause-verdict c =
    rw c.in-Rewrite.is
    (verdict_bare c.in-Rewrite.from c.in-Rewrite.to c.in-Rewrite.rules.items c.args.group.now.members.items c.judge_rewrite.result c.judge_rewrite.ensures.value)

pub returns-in-Rewrite-clause-only : goal.returns-in-Rewrite-clause-only
returns-in-Rewrite-clause-only c =
    rw c.in-Rewrite.is
    (λ other h. only_bare c.in-Rewrite.from c.in-Rewrite.to c.in-Rewrite.rules.items c.args.group.now.members.items c.judge_rewrite.result other c.judge_rewrite.ensures.value h)

pub returns-in-Rewrite-clause-value : goal.returns-in-Rewrite-clause-value
returns-in-Rewrite-clause-value c =
    rw c.in-Rewrite.is
    (c.judge_rewrite.ensures.value ∙ value_bare c.in-Rewrite.from c.in-Rewrite.to c.in-Rewrite.rules.items c.args.group.now.members.items)
