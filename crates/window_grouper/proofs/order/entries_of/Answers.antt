use Rattle.std.proofs.Common.{refl, arith}
use Rattle.window_grouper.proofs.Entries.{entries_more}
use Rattle.window_grouper.proofs.order.entries_of.Goals as goal

pub loop-position-preserved : goal.loop-position-preserved
loop-position-preserved c = record {
  entries = rw c.push_reserved.ensures.items
      (entries_more c.args.list.now.items c.loop-position.entries.items _ c.get.result.now c.loop-position.invariant.entries refl c.get.ensures);
  count = omega arith;
  room = omega arith;
}
