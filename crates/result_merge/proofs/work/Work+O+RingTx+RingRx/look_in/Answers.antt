-- One link in was shown its rings.
use Rattle.std.proofs.Common.{get_or, refl, subst}
use Rattle.credit_link.specs.Ends.{RxSeen}
use Rattle.summary_spec.specs.Job.{declared_of}
use Rattle.node_lanes.specs.Lending.{ShowsOut}
use Rattle.net_law.specs.Ends.{no_tx}
use Rattle.result_merge.specs.Works.{WorkSeen}
use Rattle.result_merge.specs.Steps.{LooksIn}
use Rattle.result_merge.proofs.work.Work+O+RingTx+RingRx.look_in.Goals as goal

pub returns-clause-looks : goal.returns-clause-looks
returns-clause-looks g c =
    let w : WorkSeen = record { job = declared_of c.self.inside.job.now; parsers = c.self.inside.parsers; credits = c.self.inside.credits; ins = c.self.inside.ins.items; counts = c.self.inside.counts.items; answers = c.self.inside.answers.items; state = c.self.inside.state; sink = g.O.Sink.seen c.self.inside.sink.now; lent = c.self.inside.sink.ghost_name; gained = c.self.inside.gained.items } in
    let e = c.lend_in.ensures in
    subst (λ (s : WorkSeen). LooksIn s (record w { ins = c.lend_in.new.ins.items }) c.args.j) c.self.view_is
    (record { rest = refl; changes = e.changes; stands = e.stands; same = λ d. ((e.shown d).shows no_tx).receiving })

pub returns-clause-shown : goal.returns-clause-shown
returns-clause-shown g c =
    subst (λ (s : WorkSeen). (e : RxSeen) → ShowsOut (g.S.LendsOut.outs c.args.sender.now) (g.S.LendsOut.outs c.lend_in.new.sender) c.args.link (get_or s.ins c.args.j e) (get_or c.lend_in.new.ins.items c.args.j e)) c.self.view_is c.lend_in.ensures.shown
