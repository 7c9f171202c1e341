use Rattle.std.proofs.Common.{◌-◌, ◌∷◌, arith}
use Rattle.path_judges.proofs.Steps.{OpenFrom-cons, OpenFrom-cons_start, IsOpen-from_last}
use Rattle.path_judges.proofs.matching.open_before.Goals as goal

pub loop-k-init : goal.loop-k-init
loop-k-init c rest after = OpenFrom-cons_start c.args.pattern.now c.args.capture rest c.len-k.result c.len-k.ensures.steps c.len-k.ensures.most

pub loop-k-preserved : goal.loop-k-preserved
loop-k-preserved c rest after =
    OpenFrom-cons c.args.pattern.now c.args.capture rest c.loop-k.k (c.loop-k.k - 1) c.get.result c.args.after.now c.loop-k.positions c.opens.result (omega arith) (omega arith) c.get.ensures after
    (c.loop-k.invariant rest after) c.opens.ensures

pub returns : goal.returns
returns c rest after = IsOpen-from_last c.args.pattern.now (c.args.capture ∷ rest) c.loop-k.k c.loop-k.positions c.loop-k-test.false (c.loop-k.invariant rest after)
