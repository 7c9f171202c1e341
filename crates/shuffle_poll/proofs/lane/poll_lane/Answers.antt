-- A poll offers, pumps and offers.
use Rattle.std.proofs.Common.{arith, nat_lt, refl, sym, ◌∙◌, subst}
use Rattle.shuffle_poll.specs.declared.needs.Need.{Need}
use Rattle.shuffle_poll.specs.Lanes.{LaneSeen}
use Rattle.shuffle_poll.specs.Polling.{LanePolls}
use Rattle.shuffle_poll.proofs.Passes.{polls, fails, waits_not, waits_is}
use Rattle.shuffle_poll.proofs.lane.poll_lane.Goals as goal

pub returns-clause-polls : goal.returns-clause-polls
returns-clause-polls g c =
    let a : LaneSeen = record { tx = c.args.tx.now; queue = c.args.queue.now } in
    let b : LaneSeen = record { tx = c.offer_front.new.tx; queue = c.offer_front.new.queue } in
    let pumped : LaneSeen = record { tx = c.pump.new.self; queue = c.offer_front.new.queue } in
    let d : LaneSeen = record { tx = c.offer_front-2.new.tx; queue = c.offer_front-2.new.queue } in
    let lacks = c.lacks_credit-lacks.ensures in
    subst (λ (need : Need). LanePolls a d c.args.cut (record { moved = c.in-Ok.moved; need = need })) (sym c.need_of-need.ensures)
    (polls a b pumped d c.args.cut c.in-Ok.moved (nat_lt 0 c.len.result) c.lacks_credit-lacks.result
    (record { first = c.offer_front.ensures.offers; pump = c.in-Ok.ensures.moved; queue = refl; second = c.offer_front-2.ensures.offers; stands = c.offer_front-2.ensures.stands; quiet = c.in-Ok.ensures.fault; again = λ bad kept. (c.in-Ok.ensures.again bad kept).1 })
    (λ yes_it_does.
    let f = lacks.lacks yes_it_does in
    (omega (arith, f.0, c.held-held.ensures.held), sym c.held-back.ensures.held ∙ f.1 ∙ c.held-held.ensures.held, sym c.held.ensures.held ∙ f.2 ∙ c.credits.ensures.credits))
    (λ no_it_does_not some same full.
    lacks.other no_it_does_not (omega (arith, some, c.held-held.ensures.held)) (c.held-back.ensures.held ∙ same ∙ sym c.held-held.ensures.held) (c.held.ensures.held ∙ full ∙ sym c.credits.ensures.credits))
    (waits_not d.queue c.len.result c.len.ensures.long) (waits_is d.queue c.len.result c.len.ensures.long))

pub returns-in-Err-clause-fails : goal.returns-in-Err-clause-fails
returns-in-Err-clause-fails g c =
    let a : LaneSeen = record { tx = c.args.tx.now; queue = c.args.queue.now } in
    let b : LaneSeen = record { tx = c.offer_front.new.tx; queue = c.offer_front.new.queue } in
    let d : LaneSeen = record { tx = c.pump.new.self; queue = c.offer_front.new.queue } in
    let e = c.in-Err.ensures in
    fails a b d c.args.cut c.in-Err.bad c.offer_front.ensures.offers refl e.fault e.kept c.offer_front.ensures.stands (λ bad kept. (e.again bad kept).1) (λ none. e.failed none)
