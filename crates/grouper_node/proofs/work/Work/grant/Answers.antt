-- A grant on one link in, seen over the work.
use Rattle.std.proofs.Common.{refl, subst}
use Rattle.summary_spec.specs.Job.{declared_of}
use Rattle.grouper_node.specs.Works.{WorkSeen}
use Rattle.grouper_node.specs.Steps.{Grants}
use Rattle.grouper_node.proofs.work.Work.grant.Goals as goal

pub returns : goal.returns
returns g c =
    let w : WorkSeen = record { job = declared_of c.self.inside.job.now; me = c.self.inside.me; groupers = c.self.inside.groupers; processors = c.self.inside.processors; credits = c.self.inside.credits; ins = c.self.inside.ins.items; orders = c.self.inside.orders.items; outs = c.self.inside.outs; state = c.self.inside.state } in
    let e = c.grant_at.ensures in
    record {
      grants = subst (λ (s : WorkSeen). Grants s (record w { ins = c.grant_at.new.ins.items }) c.args.j) c.self.view_is
          (record { changes = e.changes; grants = e.grants; goes = e.goes; stand = e.stand; rest = refl });
    }
