-- What came lies behind what was received before.
use Rattle.std.proofs.Common.{◌≡◌, ◌+◌, ◌-◌, ℕ, List, length, take, drop, ◌∙◌, arith, subst}
use Rattle.std.proofs.lemmas.List.{length-take, length-drop}
use Rattle.credit_link.specs.Receiving.{ReceiverSeen, Fills}
use Rattle.credit_link.proofs.Moving.{fills, fills_nothing}
use Rattle.credit_link.proofs.receiver.Receiver.fill.Goals as goal

pub returns-then-most-eq0-clause-filled : goal.returns-then-most-eq0-clause-filled
returns-then-most-eq0-clause-filled g c =
    let i = c.self.inside in
    let box : List ℕ = drop i.start (take i.end i.bytes.items) in
    let size : length box ≡ i.end - i.start = omega (arith, length-drop i.start (take i.end i.bytes.items), length-take i.end i.bytes.items, c.self.invariant.1.within, c.self.invariant.1.whole) in
    let now : ReceiverSeen = record { credits = i.credits; given = i.given.items; box = box; owed = i.owed; paid = i.paid; ungranted = i.ungranted; last = i.last; finished = i.finished; fault = i.fault } in
    subst (λ (before : ReceiverSeen). Fills before (record now { box = take (i.end - i.start) c.to_front.new.bytes.items }) (g.R.PipeRx.seen c.args.forth.now) (g.R.PipeRx.seen c.args.forth.now) c.args.cut 0) c.self.view_is
    (fills_nothing now (take (i.end - i.start) c.to_front.new.bytes.items) (g.R.PipeRx.seen c.args.forth.now) c.args.cut c.to_front.ensures.moved
    (λ some room. omega (arith, size, room, some, c.min-most.ensures, c.if-most-eq0.true)))

pub returns-in-Ok-clause-filled : goal.returns-in-Ok-clause-filled
returns-in-Ok-clause-filled g c =
    let i = c.self.inside in
    let box : List ℕ = drop i.start (take i.end i.bytes.items) in
    let size : length box ≡ i.end - i.start = omega (arith, length-drop i.start (take i.end i.bytes.items), length-take i.end i.bytes.items, c.self.invariant.1.within, c.self.invariant.1.whole) in
    let now : ReceiverSeen = record { credits = i.credits; given = i.given.items; box = box; owed = i.owed; paid = i.paid; ungranted = i.ungranted; last = i.last; finished = i.finished; fault = i.fault } in
    subst (λ (before : ReceiverSeen). Fills before (record now { box = take (i.end - i.start + c.in-Ok.count) c.receive_at.new.bytes.items }) (g.R.PipeRx.seen c.args.forth.now) (g.R.PipeRx.seen c.receive_at.new.forth) c.args.cut c.in-Ok.count) c.self.view_is
    (fills now (g.R.PipeRx.seen c.args.forth.now) (g.R.PipeRx.seen c.receive_at.new.forth) c.receive_at.new.bytes.items (i.end - i.start) c.min-most.result c.args.cut c.in-Ok.count
    c.requires (c.receive_at.ensures.kept ∙ c.to_front.ensures.moved) size c.min-most.ensures (grind arith) (omega (arith, c.receive_at.ensures.long, c.to_front.ensures.long, c.self.invariant.1.whole, c.self.invariant.1.within, c.min-most.ensures)) c.in-Ok.ensures.steps)
