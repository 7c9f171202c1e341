-- The frame of a processor may stand where it came, or it is refused.
use Rattle.std.proofs.Common.{◌-◌, ◌≡◌, ◌<◌, ◌≤◌, ◌++◌, ◌∷◌, [], IsTrue, length, rules, refl, sym, ap, subst, arith, length-append}
use Rattle.std.proofs.lemmas.Bool.{both_ways}
use Rattle.summary_spec.specs.Job.{declared_of}
use Rattle.node_lanes.specs.Ends.{given_on}
use Rattle.result_merge.specs.Works.{WorkSeen, noted, taken_on, taken_more}
use Rattle.result_merge.specs.Steps.{HoldsNoted, TakesUp, Refuses}
use Rattle.credit_link.specs.declared.turn.NodeFault.TheVariants.{OutOfMemory}
use Rattle.result_merge.proofs.Admitted.{in_answers, can_take_answers, answers_taken, answers_refused}
use Rattle.result_merge.proofs.work.Work.take_answers.Goals as goal

pub admit_answers-requires : goal.admit_answers-requires
admit_answers-requires g c =
    let w : WorkSeen = record { job = declared_of c.self.inside.job.now; parsers = c.self.inside.parsers; credits = c.self.inside.credits; ins = c.self.inside.ins.items; counts = c.self.inside.counts.items; answers = c.self.inside.answers.items; state = c.self.inside.state; sink = g.O.Sink.seen c.self.inside.sink.now; lent = c.self.inside.sink.ghost_name; gained = c.self.inside.gained.items } in
    let h : HoldsNoted w = subst HoldsNoted (sym c.self.view_is) c.requires.noted.0 in
    let past : w.parsers ≤ c.args.j = subst (λ (s : WorkSeen). s.parsers ≤ c.args.j) (sym c.self.view_is) c.requires.processor in
    let there : c.args.j < length w.ins = subst (λ (s : WorkSeen). c.args.j < length s.ins) (sym c.self.view_is) c.requires.noted.1 in
    in_answers w c.args.j c.args.frame.now h past there

pub refuse_order-requires : goal.refuse_order-requires
refuse_order-requires g c =
    let w : WorkSeen = record { job = declared_of c.self.inside.job.now; parsers = c.self.inside.parsers; credits = c.self.inside.credits; ins = c.self.inside.ins.items; counts = c.self.inside.counts.items; answers = c.self.inside.answers.items; state = c.self.inside.state; sink = g.O.Sink.seen c.self.inside.sink.now; lent = c.self.inside.sink.ghost_name; gained = c.self.inside.gained.items } in
    let h : HoldsNoted w = subst HoldsNoted (sym c.self.view_is) c.requires.noted.0 in
    let last : given_on w.ins c.args.j ≡ taken_on (noted w) c.args.j ++ c.args.frame.now ∷ [] = subst (λ (s : WorkSeen). given_on s.ins c.args.j ≡ taken_on (noted s) c.args.j ++ c.args.frame.now ∷ []) (sym c.self.view_is) c.requires.last in
    (subst (λ (s : WorkSeen). c.args.j < length s.ins) (sym c.self.view_is) c.requires.noted.1, omega (arith, ap length last, length-append (taken_on (noted w) c.args.j) (c.args.frame.now ∷ [])))

pub returns-then-not-admit_answers-clause-refuses : goal.returns-then-not-admit_answers-clause-refuses
returns-then-not-admit_answers-clause-refuses g c =
    let w : WorkSeen = record { job = declared_of c.self.inside.job.now; parsers = c.self.inside.parsers; credits = c.self.inside.credits; ins = c.self.inside.ins.items; counts = c.self.inside.counts.items; answers = c.self.inside.answers.items; state = c.self.inside.state; sink = g.O.Sink.seen c.self.inside.sink.now; lent = c.self.inside.sink.ghost_name; gained = c.self.inside.gained.items } in
    let h : HoldsNoted w = subst HoldsNoted (sym c.self.view_is) c.requires.noted.0 in
    let past : w.parsers ≤ c.args.j = subst (λ (s : WorkSeen). s.parsers ≤ c.args.j) (sym c.self.view_is) c.requires.processor in
    let there : c.args.j < length w.ins = subst (λ (s : WorkSeen). c.args.j < length s.ins) (sym c.self.view_is) c.requires.noted.1 in
    let last : given_on w.ins c.args.j ≡ taken_on (noted w) c.args.j ++ c.args.frame.now ∷ [] = subst (λ (s : WorkSeen). given_on s.ins c.args.j ≡ taken_on (noted s) c.args.j ++ c.args.frame.now ∷ []) (sym c.self.view_is) c.requires.last in
    subst (λ (s : WorkSeen). Refuses s (record w { answers = c.admit_answers.new.orders.items }) c.args.j c.args.frame.now c.refuse_order.result) c.self.view_is
    (answers_refused w c.args.j c.args.frame.now h past there c.refuse_order.result (c.refuse_order.ensures (taken_on (noted w) c.args.j) c.args.frame.now last)
    (λ may. both_ways c.admit_answers.result (search rules) (c.admit_answers.ensures.exact.1 may)) c.admit_answers.new.orders.items)

pub take_answers-requires : goal.take_answers-requires
take_answers-requires g c =
    let w : WorkSeen = record { job = declared_of c.self.inside.job.now; parsers = c.self.inside.parsers; credits = c.self.inside.credits; ins = c.self.inside.ins.items; counts = c.self.inside.counts.items; answers = c.self.inside.answers.items; state = c.self.inside.state; sink = g.O.Sink.seen c.self.inside.sink.now; lent = c.self.inside.sink.ghost_name; gained = c.self.inside.gained.items } in
    let h : HoldsNoted w = subst HoldsNoted (sym c.self.view_is) c.requires.noted.0 in
    let past : w.parsers ≤ c.args.j = subst (λ (s : WorkSeen). s.parsers ≤ c.args.j) (sym c.self.view_is) c.requires.processor in
    let there : c.args.j < length w.ins = subst (λ (s : WorkSeen). c.args.j < length s.ins) (sym c.self.view_is) c.requires.noted.1 in
    let admitted : IsTrue c.admit_answers.result = search rules in
    can_take_answers w c.args.j c.args.frame.now h past there (c.admit_answers.ensures.exact.0 admitted)

pub returns-clause-takes : goal.returns-clause-takes
returns-clause-takes g c =
    let w : WorkSeen = record { job = declared_of c.self.inside.job.now; parsers = c.self.inside.parsers; credits = c.self.inside.credits; ins = c.self.inside.ins.items; counts = c.self.inside.counts.items; answers = c.self.inside.answers.items; state = c.self.inside.state; sink = g.O.Sink.seen c.self.inside.sink.now; lent = c.self.inside.sink.ghost_name; gained = c.self.inside.gained.items } in
    let h : HoldsNoted w = subst HoldsNoted (sym c.self.view_is) c.requires.noted.0 in
    let past : w.parsers ≤ c.args.j = subst (λ (s : WorkSeen). s.parsers ≤ c.args.j) (sym c.self.view_is) c.requires.processor in
    let there : c.args.j < length w.ins = subst (λ (s : WorkSeen). c.args.j < length s.ins) (sym c.self.view_is) c.requires.noted.1 in
    let admitted : IsTrue c.admit_answers.result = search rules in
    subst (λ (s : WorkSeen). TakesUp s (record w { answers = c.admit_answers.new.orders.items; state = c.take_answers.new.self }) c.args.j c.args.frame.now) c.self.view_is
    (answers_taken w c.args.j c.args.frame.now h past there c.admit_answers.new.orders.items c.take_answers.new.self (c.admit_answers.ensures.takes admitted) (c.admit_answers.ensures.exact.0 admitted)
    (λ is takes. c.in-Ok.ensures w.job (record { parsers = w.parsers; groupers = 0; processors = length w.answers }) (taken_on w.counts) (taken_on w.answers) (taken_on (taken_more w.answers (c.args.j - w.parsers) c.args.frame.now)) w.gained is takes))

pub returns-in-Err-clause-refuses : goal.returns-in-Err-clause-refuses
returns-in-Err-clause-refuses g c =
    let w : WorkSeen = record { job = declared_of c.self.inside.job.now; parsers = c.self.inside.parsers; credits = c.self.inside.credits; ins = c.self.inside.ins.items; counts = c.self.inside.counts.items; answers = c.self.inside.answers.items; state = c.self.inside.state; sink = g.O.Sink.seen c.self.inside.sink.now; lent = c.self.inside.sink.ghost_name; gained = c.self.inside.gained.items } in
    subst (λ (s : WorkSeen). Refuses s (record w { answers = c.admit_answers.new.orders.items; state = c.take_answers.new.self }) c.args.j c.args.frame.now OutOfMemory) c.self.view_is
    (record { rest = refl; why = tt })
