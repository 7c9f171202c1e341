use Rattle.std.proofs.Common.{◌↔◌, List, Option, refl, subst}
use Rattle.std.specs.List.{AllByRecursion}
use Rattle.ds_base.specs.declared.stamp.Stamp.{Stamp}
use Rattle.node_frames.specs.declared.frame.Frame.{Frame}
use Rattle.frame_order.specs.Groups.{IsAfterHead, IsAfter}
use Rattle.frame_order.proofs.group_order.GroupOrder.is_after_head.Goals as goal

pub returns-in-Some : goal.returns-in-Some
returns-in-Some c =
    let first = c.args.first.now in
    let among = subst (λ (frames : List Frame). IsAfter c.self.inside.head first ↔ AllByRecursion (IsAfterHead first) frames) c.self.view_is (c.self.invariant.heads first) in
    let here = subst (λ (head : Option Stamp). IsAfter head first ↔ AllByRecursion (IsAfterHead first) c.args.self.now) c.in-Some.is among in
    (λ t. here.0 (c.precedes.ensures.0 t), λ a. c.precedes.ensures.1 (here.1 a))

pub returns-in-None : goal.returns-in-None
returns-in-None c =
    let first = c.args.first.now in
    let among = subst (λ (frames : List Frame). IsAfter c.self.inside.head first ↔ AllByRecursion (IsAfterHead first) frames) c.self.view_is (c.self.invariant.heads first) in
    let here = subst (λ (head : Option Stamp). IsAfter head first ↔ AllByRecursion (IsAfterHead first) c.args.self.now) c.in-None.is among in
    (λ t. here.0 tt, λ a. refl)
