-- A pull of one link in, seen over the work.
use Rattle.std.proofs.Common.{◌<◌, length, sym, subst}
use Rattle.std.specs.Prelude.{IfOk, IfErr}
use Rattle.summary_spec.specs.Job.{declared_of}
use Rattle.grouper_node.specs.Works.{WorkSeen, IsSound}
use Rattle.grouper_node.specs.Steps.{Pulls, Fails}
use Rattle.grouper_node.proofs.Taking.{pulls_by, pull_fails_by}
use Rattle.grouper_node.proofs.work.Work.pull.Goals as goal

pub returns-clause-pulls : goal.returns-clause-pulls
returns-clause-pulls g c =
    let w : WorkSeen = record { job = declared_of c.self.inside.job.now; me = c.self.inside.me; groupers = c.self.inside.groupers; processors = c.self.inside.processors; credits = c.self.inside.credits; ins = c.self.inside.ins.items; orders = c.self.inside.orders.items; outs = c.self.inside.outs; state = c.self.inside.state } in
    let h : IsSound w = subst IsSound (sym c.self.view_is) c.requires.sound in
    let there = subst (λ (s : WorkSeen). c.args.j < length s.ins) (sym c.self.view_is) c.requires.there in
    let e = c.pull_at.ensures in
    subst (λ (s : WorkSeen). IfOk c.pull_at.result (λ pulled. Pulls pulled c.args.j s (record w { ins = c.pull_at.new.ins.items }))) c.self.view_is
    (pulls_by w c.pull_at.new.ins.items c.args.j h there e.changes e.goes e.stand c.pull_at.result e.pulls)

pub returns-clause-fails : goal.returns-clause-fails
returns-clause-fails g c =
    let w : WorkSeen = record { job = declared_of c.self.inside.job.now; me = c.self.inside.me; groupers = c.self.inside.groupers; processors = c.self.inside.processors; credits = c.self.inside.credits; ins = c.self.inside.ins.items; orders = c.self.inside.orders.items; outs = c.self.inside.outs; state = c.self.inside.state } in
    let h : IsSound w = subst IsSound (sym c.self.view_is) c.requires.sound in
    let there = subst (λ (s : WorkSeen). c.args.j < length s.ins) (sym c.self.view_is) c.requires.there in
    let e = c.pull_at.ensures in
    subst (λ (s : WorkSeen). IfErr c.pull_at.result (λ bad. Fails s (record w { ins = c.pull_at.new.ins.items }) bad)) c.self.view_is
    (pull_fails_by w c.pull_at.new.ins.items c.args.j h there e.changes e.goes e.stand c.pull_at.result e.pulls)
