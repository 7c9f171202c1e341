use Rattle.frame_order.proofs.Following.{lawful_more}
use Rattle.run_law.specs.Links.{ItemRule}
use Rattle.std.proofs.Common.{sym}
use Rattle.summary_spec.specs.Job.{declared_of}
use Rattle.frame_order.specs.Items.{shape_with}
use Rattle.frame_order.proofs.Items.{follows_of}
use Rattle.frame_order.proofs.item_order.ItemOrder.admit.Goals as goal

pub returns-clause-exact : goal.returns-clause-exact
returns-clause-exact c = λ shape is.
    let job = declared_of c.args.job.now in
    let one = shape_with c.args.link in (
      λ t. follows_of job one shape c.args.link.parser c.args.link.grouper c.args.self.now c.args.frame.now (sym is.0) (sym is.1) (c.decide.ensures.exact.0 t),
      λ m. c.decide.ensures.exact.1 (follows_of job shape one c.args.link.parser c.args.link.grouper c.args.self.now c.args.frame.now is.0 is.1 m),
    )

pub returns-clause-lawful : goal.returns-clause-lawful
returns-clause-lawful c = λ shape is t h.
    let job = declared_of c.args.job.now in
    let one = shape_with c.args.link in
    lawful_more (ItemRule job shape c.args.link.parser c.args.link.grouper) c.args.self.now c.decide.new.self c.args.frame.now (c.decide.ensures.takes t)
    (follows_of job one shape c.args.link.parser c.args.link.grouper c.args.self.now c.args.frame.now (sym is.0) (sym is.1) (c.decide.ensures.exact.0 t)) h
