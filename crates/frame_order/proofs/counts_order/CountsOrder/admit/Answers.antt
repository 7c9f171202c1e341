use Rattle.frame_order.proofs.Following.{lawful_more}
use Rattle.run_law.specs.Links.{CountsRule}
use Rattle.std.proofs.Common.{sym}
use Rattle.summary_spec.specs.Job.{declared_of}
use Rattle.frame_order.specs.Rows.{shape_of}
use Rattle.frame_order.proofs.Rows.{follows_rows}
use Rattle.frame_order.proofs.counts_order.CountsOrder.admit.Goals as goal

pub returns-clause-exact : goal.returns-clause-exact
returns-clause-exact c = λ shape is.
    let job = declared_of c.args.job.now in
    let one = shape_of c.args.parsers in (
      λ t. follows_rows job one shape c.args.parser c.args.self.now c.args.frame.now (sym is) (c.decide.ensures.exact.0 t),
      λ m. c.decide.ensures.exact.1 (follows_rows job shape one c.args.parser c.args.self.now c.args.frame.now is m),
    )

pub returns-clause-lawful : goal.returns-clause-lawful
returns-clause-lawful c = λ shape is t h.
    let job = declared_of c.args.job.now in
    let one = shape_of c.args.parsers in
    lawful_more (CountsRule job shape c.args.parser) c.args.self.now c.decide.new.self c.args.frame.now (c.decide.ensures.takes t)
    (follows_rows job one shape c.args.parser c.args.self.now c.args.frame.now (sym is) (c.decide.ensures.exact.0 t)) h
