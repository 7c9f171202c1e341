use Rattle.std.proofs.Common.{ℕ, arith}
use Rattle.ds_base.specs.Items.{Items}
use Rattle.trace_gen.specs.Captures.{point_name}
use Rattle.trace_gen.proofs.Listing.{one_listed, all_listed}
use Rattle.trace_gen.proofs.sample_job.point_names.Goals as goal

pub loop-point-preserved : goal.loop-point-preserved
loop-point-preserved c =
    one_listed (λ (name : Items ℕ). name.items) point_name c.loop-point.point c.loop-point.names.items c.put.new.list.items c.in_ok-name.name
    c.loop-point.invariant c.in_ok-put.ensures c.in_ok-name.ensures

pub returns : goal.returns
returns c = all_listed (λ (name : Items ℕ). name.items) point_name c.loop-point.point 8 c.loop-point.names.items c.loop-point.invariant
    (omega (arith, c.loop-point-test.false, c.loop-point.auto.point-end))
