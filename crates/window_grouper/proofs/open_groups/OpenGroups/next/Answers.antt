use Rattle.std.proofs.Common.{List, subst, arith}
use Rattle.ds_base.specs.Copies.{copies_of}
use Rattle.ds_base.specs.declared.summary.Group.{Group}
use Rattle.window_grouper.specs.Placing.{shown, IsSound}
use Rattle.window_grouper.proofs.Sound.{sound_rest}
use Rattle.window_grouper.proofs.open_groups.OpenGroups.next.Goals as goal

pub invariant_of-self-2 : goal.invariant_of-self-2
invariant_of-self-2 c =
    let o = c.self.inside in
    sound_rest o.window o.given o.newest c.forget.new.self (copies_of c.in_ok-group.group) (shown c.pop_front.new.self.items)
    (subst (λ (gs : List Group). IsSound o.window o.given o.newest (shown gs)) c.in_ok-group.ensures.items c.self.invariant)
    (omega arith) c.forget.ensures
