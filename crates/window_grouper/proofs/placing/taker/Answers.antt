use Rattle.std.proofs.Common.{◌≡◌, Some, refl, arith}
use Rattle.window_grouper.specs.Newest.{newest_of}
use Rattle.window_grouper.proofs.Sound.{slot_for, slot_found}
use Rattle.window_grouper.proofs.placing.taker.Goals as goal

pub returns-then-saturating_sub-window-clause-near : goal.returns-then-saturating_sub-window-clause-near
returns-then-saturating_sub-window-clause-near c =
    let group = c.in_ok-group.group in
    let found : newest_of c.args.newest.now c.args.s.now.key ≡ Some group = cc (c.in_ok-group.ensures) in (
      slot_for c.args.given group,
      slot_found c.args.given c.args.newest.now c.args.s.now.key group found,
      refl,
      omega arith,
    )
