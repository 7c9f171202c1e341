use Rattle.std.proofs.Common.{ℕ, List, ◌∙◌, subst}
use Rattle.ds_base.specs.Gain.{GainsPrefix}
use Rattle.run_faults.proofs.complaint.complain.Goals as goal

pub returns-in-Some-clause-prefix : goal.returns-in-Some-clause-prefix
returns-in-Some-clause-prefix g c told =
    let P : List ℕ → Type 0 = λ line. GainsPrefix (g.E.Sink.seen c.args.err.now).written (g.E.Sink.seen c.write_all.new.out).written line in
    rw c.in-Some.is (subst P (c.bytes.ensures ∙ c.line_of-line.ensures) (c.write_all.ensures.prefix told))
