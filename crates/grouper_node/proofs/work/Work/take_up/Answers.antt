-- The frame may stand where it came and is taken up, or it is refused.
use Rattle.std.proofs.Common.{◌≡◌, ◌∷◌, [], List, IsTrue, length, rules, refl, sym, ap, subst, arith, length-append}
use Rattle.std.proofs.lemmas.Bool.{both_ways}
use Rattle.node_frames.specs.declared.frame.Frame.{Frame}
use Rattle.credit_link.specs.declared.turn.NodeFault.{NodeFault}
use Rattle.credit_link.specs.declared.turn.NodeFault.TheVariants.{OutOfMemory}
use Rattle.summary_spec.specs.Job.{declared_of}
use Rattle.grouper_state.specs.States.{state_is, taken_on, taken_more}
use Rattle.grouper_node.specs.Works.{WorkSeen, shape_in, puts_of}
use Rattle.grouper_node.specs.Steps.{HoldsNoted, TakesUp, Refuses}
use Rattle.grouper_node.proofs.Taking.{may_take, can_take}
use Rattle.grouper_node.proofs.work.Work.take_up.Goals as goal

pub admit_at-requires-clause-there : goal.admit_at-requires-clause-there
admit_at-requires-clause-there g c =
    let w : WorkSeen = record { job = declared_of c.self.inside.job.now; me = c.self.inside.me; groupers = c.self.inside.groupers; processors = c.self.inside.processors; credits = c.self.inside.credits; ins = c.self.inside.ins.items; orders = c.self.inside.orders.items; outs = c.self.inside.outs; state = c.self.inside.state } in
    let h : HoldsNoted w c.args.j c.args.frame.now = subst (λ (s : WorkSeen). HoldsNoted s c.args.j c.args.frame.now) (sym c.self.view_is) c.requires in
    h.there.1

pub admit_at-requires-clause-some : goal.admit_at-requires-clause-some
admit_at-requires-clause-some g c =
    let w : WorkSeen = record { job = declared_of c.self.inside.job.now; me = c.self.inside.me; groupers = c.self.inside.groupers; processors = c.self.inside.processors; credits = c.self.inside.credits; ins = c.self.inside.ins.items; orders = c.self.inside.orders.items; outs = c.self.inside.outs; state = c.self.inside.state } in
    let h : HoldsNoted w c.args.j c.args.frame.now = subst (λ (s : WorkSeen). HoldsNoted s c.args.j c.args.frame.now) (sym c.self.view_is) c.requires in
    (omega (arith, h.there.0, c.len-parsers.ensures), h.groupers)

pub refuse_order-requires : goal.refuse_order-requires
refuse_order-requires g c =
    let w : WorkSeen = record { job = declared_of c.self.inside.job.now; me = c.self.inside.me; groupers = c.self.inside.groupers; processors = c.self.inside.processors; credits = c.self.inside.credits; ins = c.self.inside.ins.items; orders = c.self.inside.orders.items; outs = c.self.inside.outs; state = c.self.inside.state } in
    let h : HoldsNoted w c.args.j c.args.frame.now = subst (λ (s : WorkSeen). HoldsNoted s c.args.j c.args.frame.now) (sym c.self.view_is) c.requires in
    let long = length-append (taken_on w.orders c.args.j) (c.args.frame.now ∷ []) in
    (h.there.0, omega (arith, ap length h.last, long))

pub returns-then-not-admit_at-clause-refuses : goal.returns-then-not-admit_at-clause-refuses
returns-then-not-admit_at-clause-refuses g c =
    let w : WorkSeen = record { job = declared_of c.self.inside.job.now; me = c.self.inside.me; groupers = c.self.inside.groupers; processors = c.self.inside.processors; credits = c.self.inside.credits; ins = c.self.inside.ins.items; orders = c.self.inside.orders.items; outs = c.self.inside.outs; state = c.self.inside.state } in
    let h : HoldsNoted w c.args.j c.args.frame.now = subst (λ (s : WorkSeen). HoldsNoted s c.args.j c.args.frame.now) (sym c.self.view_is) c.requires in
    let exact = c.admit_at.ensures.exact (shape_in w) (sym c.len-parsers.ensures, refl) in
    subst (λ (s : WorkSeen). Refuses s (record w { orders = c.admit_at.new.orders.items }) c.args.j c.args.frame.now c.refuse_order.result) c.self.view_is
    (subst (λ (bad : NodeFault). Refuses w (record w { orders = c.admit_at.new.orders.items }) c.args.j c.args.frame.now bad) (sym (c.refuse_order.ensures (taken_on w.orders c.args.j) c.args.frame.now h.last))
    (record { rest = refl; why = (refl, refl, λ may. both_ways c.admit_at.result (search rules) (exact.1 may)) }))

pub take-requires : goal.take-requires
take-requires g c =
    let w : WorkSeen = record { job = declared_of c.self.inside.job.now; me = c.self.inside.me; groupers = c.self.inside.groupers; processors = c.self.inside.processors; credits = c.self.inside.credits; ins = c.self.inside.ins.items; orders = c.self.inside.orders.items; outs = c.self.inside.outs; state = c.self.inside.state } in
    let h : HoldsNoted w c.args.j c.args.frame.now = subst (λ (s : WorkSeen). HoldsNoted s c.args.j c.args.frame.now) (sym c.self.view_is) c.requires in
    let exact = c.admit_at.ensures.exact (shape_in w) (sym c.len-parsers.ensures, refl) in
    let yes : IsTrue c.admit_at.result = search rules in
    can_take w c.args.j c.args.frame.now h (exact.0 yes)

pub returns-clause-takes : goal.returns-clause-takes
returns-clause-takes g c =
    let w : WorkSeen = record { job = declared_of c.self.inside.job.now; me = c.self.inside.me; groupers = c.self.inside.groupers; processors = c.self.inside.processors; credits = c.self.inside.credits; ins = c.self.inside.ins.items; orders = c.self.inside.orders.items; outs = c.self.inside.outs; state = c.self.inside.state } in
    let h : HoldsNoted w c.args.j c.args.frame.now = subst (λ (s : WorkSeen). HoldsNoted s c.args.j c.args.frame.now) (sym c.self.view_is) c.requires in
    let exact = c.admit_at.ensures.exact (shape_in w) (sym c.len-parsers.ensures, refl) in
    let yes : IsTrue c.admit_at.result = search rules in
    let noted : c.admit_at.new.orders.items ≡ taken_more w.orders c.args.j c.args.frame.now = c.admit_at.ensures.takes yes in
    subst (λ (s : WorkSeen). TakesUp s (record w { orders = c.admit_at.new.orders.items; state = c.take.new.self }) c.args.j c.args.frame.now) c.self.view_is
    (record {
      rest = refl;
      orders = noted;
      state = subst (λ (l : List (List Frame)). state_is w.job (shape_in w) w.me l (puts_of w.outs) c.take.new.self) (sym noted)
          (c.in-Ok.ensures.takes w.job (shape_in w) w.me w.orders (puts_of w.outs) c.args.j h.state (may_take w c.args.j c.args.frame.now h (exact.0 yes)));
    })

pub returns-in-Err-clause-refuses : goal.returns-in-Err-clause-refuses
returns-in-Err-clause-refuses g c =
    let w : WorkSeen = record { job = declared_of c.self.inside.job.now; me = c.self.inside.me; groupers = c.self.inside.groupers; processors = c.self.inside.processors; credits = c.self.inside.credits; ins = c.self.inside.ins.items; orders = c.self.inside.orders.items; outs = c.self.inside.outs; state = c.self.inside.state } in
    let h : HoldsNoted w c.args.j c.args.frame.now = subst (λ (s : WorkSeen). HoldsNoted s c.args.j c.args.frame.now) (sym c.self.view_is) c.requires in
    let exact = c.admit_at.ensures.exact (shape_in w) (sym c.len-parsers.ensures, refl) in
    let yes : IsTrue c.admit_at.result = search rules in
    subst (λ (s : WorkSeen). Refuses s (record w { orders = c.admit_at.new.orders.items; state = c.take.new.self }) c.args.j c.args.frame.now OutOfMemory) c.self.view_is
    (record { rest = refl; why = exact.0 yes })
