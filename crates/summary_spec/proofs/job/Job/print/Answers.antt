use Rattle.std.proofs.lemmas.Result.{IfOk-weaker}
use Rattle.summary_spec.specs.Job.{declared_of}
use Rattle.summary_spec.proofs.Again.{lent_again}
use Rattle.summary_spec.proofs.job.Job.print.Goals as goal

pub returns-clause-reads_back : goal.returns-clause-reads_back
returns-clause-reads_back c =
    IfOk-weaker c.copied.result _ _
    (λ text e bytes read. lent_again bytes text.items c.as_str.result.now _ (declared_of c.args.self.now) c.args.self.now.lawful e c.as_str.ensures.value c.as_str.utf8 c.in-Ok.ensures.text c.in-Ok.ensures.read read)
    c.copied.ensures
