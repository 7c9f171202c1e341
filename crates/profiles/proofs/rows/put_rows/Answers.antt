use Rattle.std.proofs.Common.{length}
use Rattle.profiles.proofs.Places.{no_row, room-next}
use Rattle.profiles.proofs.Merging.{next-joined}
use Rattle.profiles.proofs.rows.put_rows.Goals as goal

pub loop-i-preserved : goal.loop-i-preserved
loop-i-preserved c =
    let next = next-joined c.args.more.now c.loop-i.rows.items c.put_row.new.rows.items _ c.loop-i.i no_row c.loop-i-test.true c.loop-i.invariant.can c.put_row.ensures.items c.loop-i.invariant.joined in
    record {
      can = next.0;
      joined = next.1;
      room = room-next _ _ _ _ c.loop-i.i (length c.args.more.now) c.loop-i.invariant.room c.loop-i-test.true c.put_row.ensures.len c.put_row.ensures.capacity;
    }
