use Rattle.std.proofs.Common.{sym}
use Rattle.path_judges.specs.Drop.{is_of_exit}
use Rattle.path_judges.proofs.Places.{list_any-here, list_any-next}
use Rattle.path_judges.proofs.Exits.{is_of_exit-true, is_of_exit-false}
use Rattle.path_judges.proofs.drop.reach_exit.Goals as goal

pub loop-i-preserved : goal.loop-i-preserved
loop-i-preserved c =
    list_any-next (is_of_exit c.args.exits) c.args.members.now.items c.loop-i.i c.get.result.now c.get.ensures c.loop-i.invariant
    (is_of_exit-false c.args.exits c.get.result.now c.if-exits-get-eq1.false)

pub returns-then-exits-get-eq1 : goal.returns-then-exits-get-eq1
returns-then-exits-get-eq1 c =
    sym
    (list_any-here (is_of_exit c.args.exits) c.args.members.now.items c.loop-i.i c.get.result.now c.get.ensures
    (is_of_exit-true c.args.exits c.get.result.now c.if-exits-get-eq1.true))
