-- One link in was shown its rings.
use Rattle.std.proofs.Common.{get_or, refl, subst}
use Rattle.credit_link.specs.Ends.{RxSeen}
use Rattle.summary_spec.specs.Job.{declared_of}
use Rattle.node_lanes.specs.Lending.{ShowsOut}
use Rattle.net_law.specs.Ends.{no_tx}
use Rattle.grouper_node.specs.Works.{WorkSeen}
use Rattle.grouper_node.specs.Steps.{LooksIn}
use Rattle.grouper_node.proofs.work.Work+RingTx+RingRx.look_in.Goals as goal

pub returns-clause-looks : goal.returns-clause-looks
returns-clause-looks g c =
    let w : WorkSeen = record { job = declared_of c.self.inside.job.now; me = c.self.inside.me; groupers = c.self.inside.groupers; processors = c.self.inside.processors; credits = c.self.inside.credits; ins = c.self.inside.ins.items; orders = c.self.inside.orders.items; outs = c.self.inside.outs; state = c.self.inside.state } in
    let e = c.lend_in.ensures in
    subst (λ (s : WorkSeen). LooksIn s (record w { ins = c.lend_in.new.ins.items }) c.args.j) c.self.view_is
    (record { rest = refl; changes = e.changes; stands = e.stands; same = λ d. ((e.shown d).shows no_tx).receiving })

pub returns-clause-shown : goal.returns-clause-shown
returns-clause-shown g c =
    subst (λ (s : WorkSeen). (e : RxSeen) → ShowsOut (g.S.LendsOut.outs c.args.sender.now) (g.S.LendsOut.outs c.lend_in.new.sender) c.args.link (get_or s.ins c.args.j e) (get_or c.lend_in.new.ins.items c.args.j e)) c.self.view_is c.lend_in.ensures.shown
