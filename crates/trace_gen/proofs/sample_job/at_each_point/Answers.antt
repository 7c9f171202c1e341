use Rattle.std.proofs.Common.{arith}
use Rattle.trace_gen.proofs.Listing.{one_repeated, all_repeated}
use Rattle.trace_gen.proofs.sample_job.at_each_point.Goals as goal

pub loop-point-preserved : goal.loop-point-preserved
loop-point-preserved g c =
    one_repeated c.args.item c.loop-point.point c.loop-point.list.items c.put.new.list.items c.loop-point.invariant c.in_ok-put.ensures

pub returns : goal.returns
returns g c = all_repeated c.args.item c.loop-point.point 8 c.loop-point.list.items c.loop-point.invariant
    (omega (arith, c.loop-point-test.false, c.loop-point.auto.point-end))
