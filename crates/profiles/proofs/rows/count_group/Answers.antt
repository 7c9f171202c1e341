use Rattle.std.proofs.Common.{◌-◌, arith, sym, ap, ◌∙◌, List}
use Rattle.profiles.specs.Delays.{Delay}
use Rattle.profiles.specs.Put.{count_all}
use Rattle.profiles.proofs.Places.{room-next}
use Rattle.profiles.proofs.Neighbours.{times-rise, next-can, next-counted, delays-end}
use Rattle.profiles.proofs.rows.count_group.Goals as goal

pub overflow_sub-next : goal.overflow_sub-next
overflow_sub-next c =
    times-rise c.args.members.now.items c.loop-i.i c.get.result.now c.get-in-loop-i.result.now c.requires.ordered c.get.ensures c.get-in-loop-i.ensures

pub count-requires-clause-from_below : goal.count-requires-clause-from_below
count-requires-clause-from_below c =
    (next-can c.args.members.now.items c.loop-i.i c.get.result.now c.get-in-loop-i.result.now c.loop-i.rows.items c.get.ensures c.get-in-loop-i.ensures c.loop-i.invariant.can).lawful.0

pub count-requires-clause-to_below : goal.count-requires-clause-to_below
count-requires-clause-to_below c =
    (next-can c.args.members.now.items c.loop-i.i c.get.result.now c.get-in-loop-i.result.now c.loop-i.rows.items c.get.ensures c.get-in-loop-i.ensures c.loop-i.invariant.can).lawful.1

pub count-requires-clause-hour : goal.count-requires-clause-hour
count-requires-clause-hour c =
    (next-can c.args.members.now.items c.loop-i.i c.get.result.now c.get-in-loop-i.result.now c.loop-i.rows.items c.get.ensures c.get-in-loop-i.ensures c.loop-i.invariant.can).lawful.2

pub count-requires-clause-few : goal.count-requires-clause-few
count-requires-clause-few c =
    (next-can c.args.members.now.items c.loop-i.i c.get.result.now c.get-in-loop-i.result.now c.loop-i.rows.items c.get.ensures c.get-in-loop-i.ensures c.loop-i.invariant.can).few

pub loop-i-preserved : goal.loop-i-preserved
loop-i-preserved c =
    let next = next-counted c.args.members.now.items c.loop-i.i c.get.result.now c.get-in-loop-i.result.now c.loop-i.rows.items c.count.new.rows.items _ c.get.ensures c.get-in-loop-i.ensures c.loop-i.invariant.can c.count.ensures.items c.loop-i.invariant.counted in
    record {
      can = next.0;
      counted = next.1;
      room = room-next _ _ _ _ c.loop-i.i (c.len-last.result - 1) c.loop-i.invariant.room c.loop-i-test.true c.count.ensures.len c.count.ensures.capacity;
    }

pub returns-clause-items : goal.returns-clause-items
returns-clause-items c =
    let none = delays-end c.args.members.now.items c.loop-i.i (omega (arith, c.len-last.ensures)) in
    sym (ap (λ (ds : List Delay). count_all ds c.loop-i.rows.items) none) ∙ c.loop-i.invariant.counted
