use Rattle.std.proofs.Common.{arith}
use Rattle.profiles.proofs.Places.{PutsAt-found, InsertsAt-between, AreBelow-more, AreAbove-more}
use Rattle.profiles.proofs.rows.find.Goals as goal

pub returns-then-here-number : goal.returns-then-here-number
returns-then-here-number c = record {
  found = PutsAt-found c.args.number c.args.rows.now _ c.requires.kept (omega arith) (omega (arith, c.number_of-here.ensures, c.if-here-number.true));
}

pub loop-low-preserved-then-here-number-2 : goal.loop-low-preserved-then-here-number-2
loop-low-preserved-then-here-number-2 c = record {
  ordered = omega arith;
  within = c.loop-low.invariant.within;
  below = AreBelow-more c.args.number c.args.rows.now _ c.requires.kept (omega arith) (omega (arith, c.number_of-here.ensures, c.if-here-number-2.true));
  above = c.loop-low.invariant.above;
}

pub loop-low-preserved : goal.loop-low-preserved
loop-low-preserved c = record {
  ordered = omega arith;
  within = omega arith;
  below = c.loop-low.invariant.below;
  above = AreAbove-more c.args.number c.args.rows.now _ c.requires.kept (omega arith) (omega (arith, c.number_of-here.ensures, c.if-here-number.false, c.if-here-number-2.false));
}

pub returns : goal.returns
returns c = record {
  found = InsertsAt-between c.args.number c.args.rows.now c.loop-low.low (omega arith) c.loop-low.invariant.below (λ k d h w. c.loop-low.invariant.above k d (omega arith) w);
}
