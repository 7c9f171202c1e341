-- The link out was polled.
use Rattle.std.proofs.Common.{sym, subst}
use Rattle.summary_spec.specs.Job.{declared_of}
use Rattle.query_node.specs.Works.{WorkSeen, IsSound}
use Rattle.query_node.specs.Steps.{Polls, Fails}
use Rattle.query_node.proofs.Polling.{polls, poll_fails}
use Rattle.query_node.proofs.work.Work.poll.Goals as goal

pub returns-clause-polls : goal.returns-clause-polls
returns-clause-polls g c =
    let w : WorkSeen = record { job = declared_of c.self.inside.job.now; credits = c.self.inside.credits; ins = c.self.inside.ins.items; orders = c.self.inside.orders.items; outs = c.self.inside.outs; state = c.self.inside.state } in
    let e = c.in-Ok.ensures in
    subst (λ (s : WorkSeen). Polls c.in-Ok.moved s (record w { outs = c.poll_outs.new.outs })) c.self.view_is
    (polls w c.poll_outs.new.outs (subst IsSound (sym c.self.view_is) c.requires.0) e.goes e.stand e.put c.in-Ok.moved e.quiet e.calm e.passes e.no_less)

pub returns-in-Err-clause-fails : goal.returns-in-Err-clause-fails
returns-in-Err-clause-fails g c =
    let w : WorkSeen = record { job = declared_of c.self.inside.job.now; credits = c.self.inside.credits; ins = c.self.inside.ins.items; orders = c.self.inside.orders.items; outs = c.self.inside.outs; state = c.self.inside.state } in
    let e = c.in-Err.ensures in
    let sound : IsSound w = subst IsSound (sym c.self.view_is) c.requires.0 in
    subst (λ (s : WorkSeen). Fails s (record w { outs = c.poll_outs.new.outs }) c.in-Err.bad) c.self.view_is
    (poll_fails w c.poll_outs.new.outs sound e.goes e.stand e.put c.len-first.result c.in-Err.bad c.len-first.ensures (e.meets sound.quiet.1))
