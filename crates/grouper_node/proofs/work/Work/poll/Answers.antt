-- The links out were polled.
use Rattle.std.proofs.Common.{sym, subst}
use Rattle.std.specs.Prelude.{IfOk, IfErr}
use Rattle.summary_spec.specs.Job.{declared_of}
use Rattle.grouper_node.specs.Works.{WorkSeen, IsSound}
use Rattle.grouper_node.specs.Steps.{Polls, Fails}
use Rattle.grouper_node.proofs.Polling.{polls_by, poll_fails_by}
use Rattle.grouper_node.proofs.work.Work.poll.Goals as goal

pub returns-clause-polls : goal.returns-clause-polls
returns-clause-polls g c =
    let w : WorkSeen = record { job = declared_of c.self.inside.job.now; me = c.self.inside.me; groupers = c.self.inside.groupers; processors = c.self.inside.processors; credits = c.self.inside.credits; ins = c.self.inside.ins.items; orders = c.self.inside.orders.items; outs = c.self.inside.outs; state = c.self.inside.state } in
    let h : IsSound w = subst IsSound (sym c.self.view_is) c.requires.sound in
    let e = c.poll_outs.ensures in
    subst (λ (s : WorkSeen). IfOk c.poll_outs.result (λ moved. Polls moved s (record w { outs = c.poll_outs.new.outs }))) c.self.view_is
    (polls_by w c.poll_outs.new.outs h e.goes e.stand e.put c.poll_outs.result e.quiet e.calm e.passes e.no_less)

pub returns-clause-fails : goal.returns-clause-fails
returns-clause-fails g c =
    let w : WorkSeen = record { job = declared_of c.self.inside.job.now; me = c.self.inside.me; groupers = c.self.inside.groupers; processors = c.self.inside.processors; credits = c.self.inside.credits; ins = c.self.inside.ins.items; orders = c.self.inside.orders.items; outs = c.self.inside.outs; state = c.self.inside.state } in
    let h : IsSound w = subst IsSound (sym c.self.view_is) c.requires.sound in
    let e = c.poll_outs.ensures in
    subst (λ (s : WorkSeen). IfErr c.poll_outs.result (λ bad. Fails s (record w { outs = c.poll_outs.new.outs }) bad)) c.self.view_is
    (poll_fails_by w c.poll_outs.new.outs h e.goes e.stand e.put c.len-first.result c.poll_outs.result c.len-first.ensures (e.meets h.quiet.1))
