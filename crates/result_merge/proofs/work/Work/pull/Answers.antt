-- A pull of one link in, seen over the work.
use Rattle.std.proofs.Common.{◌<◌, length, sym, subst}
use Rattle.summary_spec.specs.Job.{declared_of}
use Rattle.result_merge.specs.Works.{WorkSeen, IsSound}
use Rattle.result_merge.specs.Steps.{Pulls, Fails}
use Rattle.result_merge.proofs.Taking.{pulls_ok, pull_fails}
use Rattle.result_merge.proofs.work.Work.pull.Goals as goal

pub returns-clause-pulls : goal.returns-clause-pulls
returns-clause-pulls g c =
    let w : WorkSeen = record { job = declared_of c.self.inside.job.now; parsers = c.self.inside.parsers; credits = c.self.inside.credits; ins = c.self.inside.ins.items; counts = c.self.inside.counts.items; answers = c.self.inside.answers.items; state = c.self.inside.state; sink = g.O.Sink.seen c.self.inside.sink.now; lent = c.self.inside.sink.ghost_name; gained = c.self.inside.gained.items } in
    let e = c.in-Ok.ensures in
    subst (λ (s : WorkSeen). Pulls c.in-Ok.pulled c.args.j s (record w { ins = c.pull_at.new.ins.items })) c.self.view_is
    (pulls_ok w c.pull_at.new.ins.items c.args.j (subst IsSound (sym c.self.view_is) c.requires.sound) (subst (λ (s : WorkSeen). c.args.j < length s.ins) (sym c.self.view_is) c.requires.there) e.changes e.goes e.stand c.in-Ok.pulled e.pulls)

pub returns-in-Err-clause-fails : goal.returns-in-Err-clause-fails
returns-in-Err-clause-fails g c =
    let w : WorkSeen = record { job = declared_of c.self.inside.job.now; parsers = c.self.inside.parsers; credits = c.self.inside.credits; ins = c.self.inside.ins.items; counts = c.self.inside.counts.items; answers = c.self.inside.answers.items; state = c.self.inside.state; sink = g.O.Sink.seen c.self.inside.sink.now; lent = c.self.inside.sink.ghost_name; gained = c.self.inside.gained.items } in
    let e = c.in-Err.ensures in
    subst (λ (s : WorkSeen). Fails s (record w { ins = c.pull_at.new.ins.items }) c.in-Err.bad) c.self.view_is
    (pull_fails w c.pull_at.new.ins.items c.args.j (subst IsSound (sym c.self.view_is) c.requires.sound) (subst (λ (s : WorkSeen). c.args.j < length s.ins) (sym c.self.view_is) c.requires.there) e.changes e.goes e.stand c.in-Err.bad e.pulls)
