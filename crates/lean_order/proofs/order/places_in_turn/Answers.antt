use Rattle.std.proofs.Common.{◌<◌, length, arith}
use Rattle.window_grouper.proofs.Positions.{places_more}
use Rattle.lean_order.proofs.order.places_in_turn.Goals as goal

pub loop-position-preserved : goal.loop-position-preserved
loop-position-preserved c =
    let within : c.loop-position.position < length c.args.list.now.items = omega arith in
    record {
      places = rw c.push_reserved.ensures.items
          (places_more c.args.list.now.items c.loop-position.places.items c.loop-position.position c.loop-position.invariant.places within);
      count = omega arith;
      room = omega arith;
    }
