-- The links in were pumped.
use Rattle.std.proofs.Common.{sym, subst}
use Rattle.std.specs.Prelude.{IfOk, IfErr}
use Rattle.summary_spec.specs.Job.{declared_of}
use Rattle.grouper_node.specs.Works.{WorkSeen, IsSound}
use Rattle.grouper_node.specs.Steps.{Pumps, Fails}
use Rattle.grouper_node.proofs.Polling.{pumps_by, pump_fails_by}
use Rattle.grouper_node.proofs.work.Work.pump.Goals as goal

pub returns-clause-pumps : goal.returns-clause-pumps
returns-clause-pumps g c =
    let w : WorkSeen = record { job = declared_of c.self.inside.job.now; me = c.self.inside.me; groupers = c.self.inside.groupers; processors = c.self.inside.processors; credits = c.self.inside.credits; ins = c.self.inside.ins.items; orders = c.self.inside.orders.items; outs = c.self.inside.outs; state = c.self.inside.state } in
    let h : IsSound w = subst IsSound (sym c.self.view_is) c.requires.sound in
    let e = c.pump_ins.ensures in
    subst (λ (s : WorkSeen). IfOk c.pump_ins.result (λ moved. Pumps moved s (record w { ins = c.pump_ins.new.ins.items }))) c.self.view_is
    (pumps_by w c.pump_ins.new.ins.items h e.goes e.stand e.given c.pump_ins.result e.keeps e.quiet e.calm e.passes e.no_less)

pub returns-clause-fails : goal.returns-clause-fails
returns-clause-fails g c =
    let w : WorkSeen = record { job = declared_of c.self.inside.job.now; me = c.self.inside.me; groupers = c.self.inside.groupers; processors = c.self.inside.processors; credits = c.self.inside.credits; ins = c.self.inside.ins.items; orders = c.self.inside.orders.items; outs = c.self.inside.outs; state = c.self.inside.state } in
    let h : IsSound w = subst IsSound (sym c.self.view_is) c.requires.sound in
    let e = c.pump_ins.ensures in
    subst (λ (s : WorkSeen). IfErr c.pump_ins.result (λ bad. Fails s (record w { ins = c.pump_ins.new.ins.items }) bad)) c.self.view_is
    (pump_fails_by w c.pump_ins.new.ins.items h e.goes e.stand e.given c.pump_ins.result (e.meets h.quiet.0.quiet))
