-- What is due is put on links on which none waits.
use Rattle.std.proofs.Common.{Option, Ok, Some, true, false, sym, ap, ◌∙◌, subst}
use Rattle.grouper_state.specs.States.{state_is, with_due}
use Rattle.grouper_state.specs.declared.due_frame.Due.{Due}
use Rattle.credit_link.specs.declared.turn.NodeFault.TheVariants.{OutOfMemory}
use Rattle.summary_spec.specs.Job.{declared_of}
use Rattle.node_lanes.specs.Resting.{NoneHeld}
use Rattle.grouper_node.specs.Works.{WorkSeen, shape_in, taken_off, puts_of, IsSound}
use Rattle.grouper_node.specs.Steps.{PutsDue, Fails}
use Rattle.grouper_node.proofs.Putting.{can_put, due_open, puts_one, puts_none, due_fails}
use Rattle.grouper_node.proofs.work.Work.put_due.Goals as goal

pub next_due-requires : goal.next_due-requires
next_due-requires g c =
    let w : WorkSeen = record { job = declared_of c.self.inside.job.now; me = c.self.inside.me; groupers = c.self.inside.groupers; processors = c.self.inside.processors; credits = c.self.inside.credits; ins = c.self.inside.ins.items; orders = c.self.inside.orders.items; outs = c.self.inside.outs; state = c.self.inside.state } in
    let h : IsSound w = subst IsSound (sym c.self.view_is) c.requires.sound in
    can_put w h

pub put_frame-requires-clause-many : goal.put_frame-requires-clause-many
put_frame-requires-clause-many g c =
    let w : WorkSeen = record { job = declared_of c.self.inside.job.now; me = c.self.inside.me; groupers = c.self.inside.groupers; processors = c.self.inside.processors; credits = c.self.inside.credits; ins = c.self.inside.ins.items; orders = c.self.inside.orders.items; outs = c.self.inside.outs; state = c.self.inside.state } in
    let h : IsSound w = subst IsSound (sym c.self.view_is) c.requires.sound in
    h.processors

pub put_frame-requires-clause-none : goal.put_frame-requires-clause-none
put_frame-requires-clause-none g c = subst (λ (s : WorkSeen). NoneHeld s.outs) (sym c.self.view_is) c.requires.none

pub put_frame-requires-clause-unfinished : goal.put_frame-requires-clause-unfinished
put_frame-requires-clause-unfinished g c =
    let w : WorkSeen = record { job = declared_of c.self.inside.job.now; me = c.self.inside.me; groupers = c.self.inside.groupers; processors = c.self.inside.processors; credits = c.self.inside.credits; ins = c.self.inside.ins.items; orders = c.self.inside.orders.items; outs = c.self.inside.outs; state = c.self.inside.state } in
    let h : IsSound w = subst IsSound (sym c.self.view_is) c.requires.sound in
    let e = c.in-Ok-Some.ensures in
    let is = c.in-Ok-Some.field-0-is in
    due_open w h c.next_due.new.self c.in-Ok-Some.due
    (subst (λ (x : Option Due). state_is w.job (shape_in w) w.me (taken_off w.ins) (with_due (puts_of w.outs) x) c.next_due.new.self) is (e.puts w.job (shape_in w) w.me (taken_off w.ins) (puts_of w.outs) h.state))
    (λ q frame to. e.there q frame (is ∙ ap Some to))

pub returns-in-Ok-Some-clause-puts : goal.returns-in-Ok-Some-clause-puts
returns-in-Ok-Some-clause-puts g c =
    let w : WorkSeen = record { job = declared_of c.self.inside.job.now; me = c.self.inside.me; groupers = c.self.inside.groupers; processors = c.self.inside.processors; credits = c.self.inside.credits; ins = c.self.inside.ins.items; orders = c.self.inside.orders.items; outs = c.self.inside.outs; state = c.self.inside.state } in
    let h : IsSound w = subst IsSound (sym c.self.view_is) c.requires.sound in
    let e = c.in-Ok-Some.ensures in
    let is = c.in-Ok-Some.field-0-is in
    subst (λ (s : WorkSeen). PutsDue true s (record w { outs = c.put_frame.new.outs; state = c.next_due.new.self })) c.self.view_is
    (puts_one w h c.put_frame.new.outs c.next_due.new.self c.in-Ok-Some.due c.put_frame.ensures.goes c.put_frame.ensures.put
    (subst (λ (x : Option Due). state_is w.job (shape_in w) w.me (taken_off w.ins) (with_due (puts_of w.outs) x) c.next_due.new.self) is (e.puts w.job (shape_in w) w.me (taken_off w.ins) (puts_of w.outs) h.state))
    (e.less c.in-Ok-Some.due is))

pub returns-in-Ok-None-clause-puts : goal.returns-in-Ok-None-clause-puts
returns-in-Ok-None-clause-puts g c =
    let w : WorkSeen = record { job = declared_of c.self.inside.job.now; me = c.self.inside.me; groupers = c.self.inside.groupers; processors = c.self.inside.processors; credits = c.self.inside.credits; ins = c.self.inside.ins.items; orders = c.self.inside.orders.items; outs = c.self.inside.outs; state = c.self.inside.state } in
    let h : IsSound w = subst IsSound (sym c.self.view_is) c.requires.sound in
    let e = c.in-Ok-None.ensures in
    let is = c.in-Ok-None.field-0-is in
    subst (λ (s : WorkSeen). PutsDue false s (record w { state = c.next_due.new.self })) c.self.view_is
    (puts_none w h c.next_due.new.self
    (subst (λ (x : Option Due). state_is w.job (shape_in w) w.me (taken_off w.ins) (with_due (puts_of w.outs) x) c.next_due.new.self) is (e.puts w.job (shape_in w) w.me (taken_off w.ins) (puts_of w.outs) h.state))
    (e.rests (ap Ok is)))

pub returns-in-Err-clause-fails : goal.returns-in-Err-clause-fails
returns-in-Err-clause-fails g c =
    let w : WorkSeen = record { job = declared_of c.self.inside.job.now; me = c.self.inside.me; groupers = c.self.inside.groupers; processors = c.self.inside.processors; credits = c.self.inside.credits; ins = c.self.inside.ins.items; orders = c.self.inside.orders.items; outs = c.self.inside.outs; state = c.self.inside.state } in
    let h : IsSound w = subst IsSound (sym c.self.view_is) c.requires.sound in
    subst (λ (s : WorkSeen). Fails s (record w { state = c.next_due.new.self }) OutOfMemory) c.self.view_is (due_fails w h c.next_due.new.self)
