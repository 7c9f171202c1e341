use Rattle.std.proofs.Common.{arith}
use Rattle.ds_base.specs.Files.{named_bytes}
use Rattle.trace_gen.specs.Captures.{named_file}
use Rattle.trace_gen.proofs.Listing.{one_listed, all_listed}
use Rattle.trace_gen.proofs.sample.capture_files.Goals as goal

pub loop-point-preserved : goal.loop-point-preserved
loop-point-preserved c =
    one_listed named_bytes (named_file c.args.seen.now.items) c.loop-point.point c.loop-point.files.items c.put.new.list.items c.in_ok-named_file.field-0
    c.loop-point.invariant c.in_ok-put.ensures c.in_ok-named_file.ensures

pub returns : goal.returns
returns c = all_listed named_bytes (named_file c.args.seen.now.items) c.loop-point.point 8 c.loop-point.files.items c.loop-point.invariant
    (omega (arith, c.loop-point-test.false, c.loop-point.auto.point-end))
