use Rattle.std.proofs.Common.{sym}
use Rattle.path_judges.specs.Loop.{is_above}
use Rattle.path_judges.proofs.Found.{find-here, find-next}
use Rattle.path_judges.proofs.hop_loop.first_above.Goals as goal

pub returns-then-exceeds : goal.returns-then-exceeds
returns-then-exceeds c =
    let found = find-here (is_above c.args.hop c.args.low.now) c.args.members.now.items c.loop-i.i c.args.end c.get-member.result.now c.get-member.ensures c.loop-i.invariant (sym c.if-exceeds.ensures) c.loop-i-test.true in
    rw (found, c.value_at.ensures)

pub loop-i-preserved : goal.loop-i-preserved
loop-i-preserved c =
    find-next (is_above c.args.hop c.args.low.now) c.args.members.now.items c.loop-i.i c.get-member.result.now c.get-member.ensures c.loop-i.invariant (sym c.if-exceeds.ensures)
