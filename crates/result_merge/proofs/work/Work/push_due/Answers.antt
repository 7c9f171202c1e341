-- The lines that are due were pushed, over the links that there are.
use Rattle.std.proofs.Common.{sym, subst}
use Rattle.summary_spec.specs.Job.{declared_of}
use Rattle.credit_link.specs.declared.turn.NodeFault.TheVariants.{OutOfMemory}
use Rattle.result_merge.specs.Works.{WorkSeen, IsSound}
use Rattle.result_merge.specs.Steps.{PushesDue, Fails}
use Rattle.result_merge.proofs.Writing.{stands_for, pushes_due, push_fails}
use Rattle.result_merge.proofs.work.Work.push_due.Goals as goal

pub push_all-requires : goal.push_all-requires
push_all-requires g c =
    let w : WorkSeen = record { job = declared_of c.self.inside.job.now; parsers = c.self.inside.parsers; credits = c.self.inside.credits; ins = c.self.inside.ins.items; counts = c.self.inside.counts.items; answers = c.self.inside.answers.items; state = c.self.inside.state; sink = g.O.Sink.seen c.self.inside.sink.now; lent = c.self.inside.sink.ghost_name; gained = c.self.inside.gained.items } in
    stands_for w (subst IsSound (sym c.self.view_is) c.requires.sound)

pub returns-clause-pushes : goal.returns-clause-pushes
returns-clause-pushes g c =
    let w : WorkSeen = record { job = declared_of c.self.inside.job.now; parsers = c.self.inside.parsers; credits = c.self.inside.credits; ins = c.self.inside.ins.items; counts = c.self.inside.counts.items; answers = c.self.inside.answers.items; state = c.self.inside.state; sink = g.O.Sink.seen c.self.inside.sink.now; lent = c.self.inside.sink.ghost_name; gained = c.self.inside.gained.items } in
    let e = c.in-Ok.ensures in
    subst (λ (s : WorkSeen). PushesDue s (record w { state = c.push_all.new.state }) c.push_all.new.text.items) c.self.view_is
    (pushes_due w c.push_all.new.state c.push_all.new.text.items (subst IsSound (sym c.self.view_is) c.requires.sound) c.args.text.now.items c.requires.empty c.links_tell.ensures e.pushes e.all)

pub returns-in-Err-clause-fails : goal.returns-in-Err-clause-fails
returns-in-Err-clause-fails g c =
    let w : WorkSeen = record { job = declared_of c.self.inside.job.now; parsers = c.self.inside.parsers; credits = c.self.inside.credits; ins = c.self.inside.ins.items; counts = c.self.inside.counts.items; answers = c.self.inside.answers.items; state = c.self.inside.state; sink = g.O.Sink.seen c.self.inside.sink.now; lent = c.self.inside.sink.ghost_name; gained = c.self.inside.gained.items } in
    subst (λ (s : WorkSeen). Fails s (record w { state = c.push_all.new.state }) OutOfMemory) c.self.view_is
    (push_fails w c.push_all.new.state (subst IsSound (sym c.self.view_is) c.requires.sound))
