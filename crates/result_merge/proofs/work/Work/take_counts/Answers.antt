-- The frame of a parser may stand where it came, or it is refused.
use Rattle.std.proofs.Common.{◌≡◌, ◌<◌, ◌++◌, ◌∷◌, [], IsTrue, length, rules, refl, sym, ap, subst, arith, length-append}
use Rattle.std.proofs.lemmas.Bool.{both_ways}
use Rattle.summary_spec.specs.Job.{declared_of}
use Rattle.node_lanes.specs.Ends.{given_on}
use Rattle.result_merge.specs.Works.{WorkSeen, noted, taken_on, taken_more}
use Rattle.result_merge.specs.Steps.{HoldsNoted, TakesUp, Refuses}
use Rattle.result_merge.proofs.Admitted.{in_counts, can_take_counts, counts_taken, counts_refused}
use Rattle.result_merge.proofs.work.Work.take_counts.Goals as goal

pub admit_counts-requires : goal.admit_counts-requires
admit_counts-requires g c =
    let w : WorkSeen = record { job = declared_of c.self.inside.job.now; parsers = c.self.inside.parsers; credits = c.self.inside.credits; ins = c.self.inside.ins.items; counts = c.self.inside.counts.items; answers = c.self.inside.answers.items; state = c.self.inside.state; sink = g.O.Sink.seen c.self.inside.sink.now; lent = c.self.inside.sink.ghost_name; gained = c.self.inside.gained.items } in
    let h : HoldsNoted w = subst HoldsNoted (sym c.self.view_is) c.requires.noted.0 in
    let parser : c.args.j < w.parsers = subst (λ (s : WorkSeen). c.args.j < s.parsers) (sym c.self.view_is) c.requires.parser in
    (in_counts w c.args.j c.args.frame.now h parser, omega (arith, h.some))

pub refuse_order-requires : goal.refuse_order-requires
refuse_order-requires g c =
    let w : WorkSeen = record { job = declared_of c.self.inside.job.now; parsers = c.self.inside.parsers; credits = c.self.inside.credits; ins = c.self.inside.ins.items; counts = c.self.inside.counts.items; answers = c.self.inside.answers.items; state = c.self.inside.state; sink = g.O.Sink.seen c.self.inside.sink.now; lent = c.self.inside.sink.ghost_name; gained = c.self.inside.gained.items } in
    let h : HoldsNoted w = subst HoldsNoted (sym c.self.view_is) c.requires.noted.0 in
    let last : given_on w.ins c.args.j ≡ taken_on (noted w) c.args.j ++ c.args.frame.now ∷ [] = subst (λ (s : WorkSeen). given_on s.ins c.args.j ≡ taken_on (noted s) c.args.j ++ c.args.frame.now ∷ []) (sym c.self.view_is) c.requires.last in
    (subst (λ (s : WorkSeen). c.args.j < length s.ins) (sym c.self.view_is) c.requires.noted.1, omega (arith, ap length last, length-append (taken_on (noted w) c.args.j) (c.args.frame.now ∷ [])))

pub returns-then-not-admit_counts-clause-refuses : goal.returns-then-not-admit_counts-clause-refuses
returns-then-not-admit_counts-clause-refuses g c =
    let w : WorkSeen = record { job = declared_of c.self.inside.job.now; parsers = c.self.inside.parsers; credits = c.self.inside.credits; ins = c.self.inside.ins.items; counts = c.self.inside.counts.items; answers = c.self.inside.answers.items; state = c.self.inside.state; sink = g.O.Sink.seen c.self.inside.sink.now; lent = c.self.inside.sink.ghost_name; gained = c.self.inside.gained.items } in
    let h : HoldsNoted w = subst HoldsNoted (sym c.self.view_is) c.requires.noted.0 in
    let parser : c.args.j < w.parsers = subst (λ (s : WorkSeen). c.args.j < s.parsers) (sym c.self.view_is) c.requires.parser in
    let last : given_on w.ins c.args.j ≡ taken_on (noted w) c.args.j ++ c.args.frame.now ∷ [] = subst (λ (s : WorkSeen). given_on s.ins c.args.j ≡ taken_on (noted s) c.args.j ++ c.args.frame.now ∷ []) (sym c.self.view_is) c.requires.last in
    subst (λ (s : WorkSeen). Refuses s (record w { counts = c.admit_counts.new.orders.items }) c.args.j c.args.frame.now c.refuse_order.result) c.self.view_is
    (counts_refused w c.args.j c.args.frame.now h parser c.refuse_order.result (c.refuse_order.ensures (taken_on (noted w) c.args.j) c.args.frame.now last)
    (λ shape same may. both_ways c.admit_counts.result (search rules) ((c.admit_counts.ensures.exact shape same).1 may)) c.admit_counts.new.orders.items)

pub take_counts-requires : goal.take_counts-requires
take_counts-requires g c =
    let w : WorkSeen = record { job = declared_of c.self.inside.job.now; parsers = c.self.inside.parsers; credits = c.self.inside.credits; ins = c.self.inside.ins.items; counts = c.self.inside.counts.items; answers = c.self.inside.answers.items; state = c.self.inside.state; sink = g.O.Sink.seen c.self.inside.sink.now; lent = c.self.inside.sink.ghost_name; gained = c.self.inside.gained.items } in
    let h : HoldsNoted w = subst HoldsNoted (sym c.self.view_is) c.requires.noted.0 in
    let parser : c.args.j < w.parsers = subst (λ (s : WorkSeen). c.args.j < s.parsers) (sym c.self.view_is) c.requires.parser in
    let admitted : IsTrue c.admit_counts.result = search rules in
    can_take_counts w c.args.j c.args.frame.now h parser ((c.admit_counts.ensures.exact (record { parsers = w.parsers; groupers = 0; processors = length w.answers }) refl).0 admitted)

pub returns-clause-takes : goal.returns-clause-takes
returns-clause-takes g c =
    let w : WorkSeen = record { job = declared_of c.self.inside.job.now; parsers = c.self.inside.parsers; credits = c.self.inside.credits; ins = c.self.inside.ins.items; counts = c.self.inside.counts.items; answers = c.self.inside.answers.items; state = c.self.inside.state; sink = g.O.Sink.seen c.self.inside.sink.now; lent = c.self.inside.sink.ghost_name; gained = c.self.inside.gained.items } in
    let h : HoldsNoted w = subst HoldsNoted (sym c.self.view_is) c.requires.noted.0 in
    let parser : c.args.j < w.parsers = subst (λ (s : WorkSeen). c.args.j < s.parsers) (sym c.self.view_is) c.requires.parser in
    let admitted : IsTrue c.admit_counts.result = search rules in
    subst (λ (s : WorkSeen). TakesUp s (record w { counts = c.admit_counts.new.orders.items; state = c.take_counts.new.self }) c.args.j c.args.frame.now) c.self.view_is
    (counts_taken w c.args.j c.args.frame.now h parser c.admit_counts.new.orders.items c.take_counts.new.self (c.admit_counts.ensures.takes admitted) (λ shape same. (c.admit_counts.ensures.exact shape same).0 admitted)
    (λ is takes. c.take_counts.ensures w.job (record { parsers = w.parsers; groupers = 0; processors = length w.answers }) (taken_on w.counts) (taken_on (taken_more w.counts c.args.j c.args.frame.now)) (taken_on w.answers) w.gained c.args.j is takes))
