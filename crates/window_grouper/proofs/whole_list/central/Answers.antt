use Rattle.std.proofs.Common.{List, ◌∙◌, [], take, sym, subst, arith}
use Rattle.std.proofs.lemmas.Result.{IfOk-weaker}
use Rattle.ds_base.specs.declared.summary.Summary.{Summary}
use Rattle.window_grouper.specs.Groups.{IsGroups}
use Rattle.window_grouper.specs.Open.{HasPlaced}
use Rattle.window_grouper.proofs.Covers.{groups_of-IsGroups}
use Rattle.window_grouper.proofs.GivenOut.{take_next, ordered_next, placed_all}
use Rattle.window_grouper.proofs.whole_list.central.Goals as goal

pub loop-i-preserved : goal.loop-i-preserved
loop-i-preserved c =
    let l = c.args.list.now.items in
    subst (λ (front : List Summary). HasPlaced c.place.new.self c.args.window front [] 0)
    (sym (take_next l c.loop-i.i c.get.result.now c.get.ensures))
    (c.in_ok-place.ensures.placed c.args.window (take c.loop-i.i l) [] 0 c.loop-i.invariant (omega arith)
    (ordered_next l c.loop-i.i c.get.result.now c.requires c.get.ensures))

pub returns-clause-groups : goal.returns-clause-groups
returns-clause-groups c =
    let l = c.args.list.now.items in
    let held = placed_all l c.loop-i.i c.loop-i.placed c.args.window 0 (omega arith) c.loop-i.invariant in
    IfOk-weaker c.all_of.result _ _
    (λ groups all. subst (IsGroups c.args.window l) (held ∙ sym all) (groups_of-IsGroups c.args.window l c.requires))
    c.all_of.ensures

pub returns-clause-exact : goal.returns-clause-exact
returns-clause-exact c =
    let held = placed_all c.args.list.now.items c.loop-i.i c.loop-i.placed c.args.window 0 (omega arith) c.loop-i.invariant in
    IfOk-weaker c.all_of.result _ _ (λ groups all. all ∙ sym held) c.all_of.ensures
