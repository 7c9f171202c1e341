-- A grant on one link in, seen over the work.
use Rattle.std.proofs.Common.{refl, subst}
use Rattle.summary_spec.specs.Job.{declared_of}
use Rattle.result_merge.specs.Works.{WorkSeen}
use Rattle.result_merge.specs.Steps.{Grants}
use Rattle.result_merge.proofs.work.Work.grant.Goals as goal

pub returns : goal.returns
returns g c =
    let w : WorkSeen = record { job = declared_of c.self.inside.job.now; parsers = c.self.inside.parsers; credits = c.self.inside.credits; ins = c.self.inside.ins.items; counts = c.self.inside.counts.items; answers = c.self.inside.answers.items; state = c.self.inside.state; sink = g.O.Sink.seen c.self.inside.sink.now; lent = c.self.inside.sink.ghost_name; gained = c.self.inside.gained.items } in
    let e = c.grant_at.ensures in
    record {
      grants = subst (λ (s : WorkSeen). Grants s (record w { ins = c.grant_at.new.ins.items }) c.args.j) c.self.view_is
          (record { changes = e.changes; grants = e.grants; goes = e.goes; stand = e.stand; rest = refl });
    }
