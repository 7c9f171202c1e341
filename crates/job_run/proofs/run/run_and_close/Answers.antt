use Rattle.std.proofs.lemmas.Result.{IfErr-weaker}
use Rattle.job_run.proofs.run.run_and_close.Goals as goal

pub returns-clause-no_link : goal.returns-clause-no_link
returns-clause-no_link g c = IfErr-weaker c.run_here-ended.result _ _ (λ at is. c.fault.ensures.no_link at.node at.fault is) c.run_here-ended.ensures.fault
