use Rattle.trace_gen.proofs.Filing.{one_filed}
use Rattle.trace_gen.proofs.capture_file.capture_file.Goals as goal

pub loop-k-preserved : goal.loop-k-preserved
loop-k-preserved c =
    one_filed c.args.point c.loop-k.k c.args.seen.now.items c.get.result.now c.loop-k.out.items c.put_where.new.out.items
    c.get.ensures c.loop-k.invariant c.in_ok-put_where.ensures
