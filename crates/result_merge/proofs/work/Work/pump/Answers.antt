-- The links in were pumped.
use Rattle.std.proofs.Common.{sym, subst}
use Rattle.summary_spec.specs.Job.{declared_of}
use Rattle.result_merge.specs.Works.{WorkSeen, IsSound}
use Rattle.result_merge.specs.Steps.{Pumps, Fails}
use Rattle.result_merge.proofs.Pumping.{pumps, pump_fails}
use Rattle.result_merge.proofs.work.Work.pump.Goals as goal

pub returns-clause-pumps : goal.returns-clause-pumps
returns-clause-pumps g c =
    let w : WorkSeen = record { job = declared_of c.self.inside.job.now; parsers = c.self.inside.parsers; credits = c.self.inside.credits; ins = c.self.inside.ins.items; counts = c.self.inside.counts.items; answers = c.self.inside.answers.items; state = c.self.inside.state; sink = g.O.Sink.seen c.self.inside.sink.now; lent = c.self.inside.sink.ghost_name; gained = c.self.inside.gained.items } in
    let e = c.in-Ok.ensures in
    subst (λ (s : WorkSeen). Pumps c.in-Ok.moved s (record w { ins = c.pump_ins.new.ins.items })) c.self.view_is
    (pumps w c.pump_ins.new.ins.items (subst IsSound (sym c.self.view_is) c.requires.0) e.goes e.stand e.given c.in-Ok.moved e.keeps e.quiet e.calm e.passes e.no_less)

pub returns-in-Err-clause-fails : goal.returns-in-Err-clause-fails
returns-in-Err-clause-fails g c =
    let w : WorkSeen = record { job = declared_of c.self.inside.job.now; parsers = c.self.inside.parsers; credits = c.self.inside.credits; ins = c.self.inside.ins.items; counts = c.self.inside.counts.items; answers = c.self.inside.answers.items; state = c.self.inside.state; sink = g.O.Sink.seen c.self.inside.sink.now; lent = c.self.inside.sink.ghost_name; gained = c.self.inside.gained.items } in
    let e = c.in-Err.ensures in
    let sound : IsSound w = subst IsSound (sym c.self.view_is) c.requires.0 in
    subst (λ (s : WorkSeen). Fails s (record w { ins = c.pump_ins.new.ins.items }) c.in-Err.bad) c.self.view_is
    (pump_fails w c.pump_ins.new.ins.items sound e.goes e.stand e.given c.in-Err.bad (e.meets sound.quiet.quiet))
