use Rattle.summary_spec.proofs.Verdicts.{verdict_is, verdict_only}
use Rattle.summary_spec.proofs.law.one_verdict.Goals as goal

pub returns : goal.returns
returns c = record {
  verdict = λ d members lawful some. verdict_is d.vars d.captures d.query members lawful.query some;
  only = λ d members v lawful some h. verdict_only d.vars d.captures d.query members v lawful.query h;
}
