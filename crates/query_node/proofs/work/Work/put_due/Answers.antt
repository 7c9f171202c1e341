-- What is due is put, before which the end was not put.
use Rattle.std.proofs.Common.{List, refl, sym, ap, subst, append-nil}
use Rattle.node_frames.specs.declared.frame.Frame.{Frame}
use Rattle.summary_spec.specs.Job.{declared_of}
use Rattle.query_state.specs.States.{state_is}
use Rattle.query_node.specs.Works.{WorkSeen, taken_off, put_by, IsSound}
use Rattle.query_node.specs.Steps.{Steps}
use Rattle.query_node.proofs.Putting.{put_steps, due_open, same_steps}
use Rattle.query_node.proofs.work.Work.put_due.Goals as goal

pub put_frame-requires-clause-unfinished : goal.put_frame-requires-clause-unfinished
put_frame-requires-clause-unfinished g c =
    let w : WorkSeen = record { job = declared_of c.self.inside.job.now; credits = c.self.inside.credits; ins = c.self.inside.ins.items; orders = c.self.inside.orders.items; outs = c.self.inside.outs; state = c.self.inside.state } in
    due_open w (subst IsSound (sym c.self.view_is) c.requires.sound) (c.in-Some.ensures.unfinished c.in-Some.frame refl)

pub returns-in-Some-clause-steps : goal.returns-in-Some-clause-steps
returns-in-Some-clause-steps g c =
    let w : WorkSeen = record { job = declared_of c.self.inside.job.now; credits = c.self.inside.credits; ins = c.self.inside.ins.items; orders = c.self.inside.orders.items; outs = c.self.inside.outs; state = c.self.inside.state } in
    let h : IsSound w = subst IsSound (sym c.self.view_is) c.requires.sound in
    let e = c.put_frame.ensures in
    subst (λ (s : WorkSeen). Steps s (record w { outs = c.put_frame.new.outs; state = c.next_due.new.self })) c.self.view_is
    (put_steps w c.put_frame.new.outs h e.links e.queues e.holds c.next_due.new.self
    (subst (λ (fs : List Frame). state_is w.job (taken_off w.ins) fs c.next_due.new.self) (sym e.put) (c.in-Some.ensures.puts w.job (taken_off w.ins) (put_by w.outs) h.state)))

pub returns-in-None-clause-steps : goal.returns-in-None-clause-steps
returns-in-None-clause-steps g c =
    let w : WorkSeen = record { job = declared_of c.self.inside.job.now; credits = c.self.inside.credits; ins = c.self.inside.ins.items; orders = c.self.inside.orders.items; outs = c.self.inside.outs; state = c.self.inside.state } in
    let h : IsSound w = subst IsSound (sym c.self.view_is) c.requires.sound in
    subst (λ (s : WorkSeen). Steps s (record w { state = c.next_due.new.self })) c.self.view_is
    (same_steps w c.next_due.new.self h
    (subst (λ (fs : List Frame). state_is w.job (taken_off w.ins) fs c.next_due.new.self) (append-nil (put_by w.outs)) (c.in-None.ensures.puts w.job (taken_off w.ins) (put_by w.outs) h.state)))

pub returns-in-None-clause-none : goal.returns-in-None-clause-none
returns-in-None-clause-none g c is =
    let w : WorkSeen = record { job = declared_of c.self.inside.job.now; credits = c.self.inside.credits; ins = c.self.inside.ins.items; orders = c.self.inside.orders.items; outs = c.self.inside.outs; state = c.self.inside.state } in
    let h : IsSound w = subst IsSound (sym c.self.view_is) c.requires.sound in
    let rests = c.in-None.ensures.rests refl w.job (taken_off w.ins) (put_by w.outs) h.state in
    (ap (λ (s : WorkSeen). s.outs) c.self.view_is, record { mark = rests.0; over = rests.1 })
