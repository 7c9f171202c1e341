use Rattle.std.proofs.Common.{◌↔◌, List, Option, refl, subst}
use Rattle.std.specs.List.{AllByRecursion}
use Rattle.node_frames.specs.declared.frame.Frame.{Frame}
use Rattle.answer_order.specs.Answers.{IsAfterRow, IsAfter}
use Rattle.answer_order.specs.declared.row_pair.RowPair.{RowPair}
use Rattle.answer_order.proofs.answer_order.AnswerOrder.is_after_rows.Goals as goal

pub returns-in-Some : goal.returns-in-Some
returns-in-Some c =
    let row = c.args.row.now in
    let among = subst (λ (frames : List Frame). IsAfter c.self.inside.last row ↔ AllByRecursion (IsAfterRow row) frames) c.self.view_is (c.self.invariant.rows row) in
    let here = subst (λ (last : Option RowPair). IsAfter last row ↔ AllByRecursion (IsAfterRow row) c.args.self.now) c.in-Some.is among in
    (λ t. here.0 (c.is_before.ensures.0 t), λ a. c.is_before.ensures.1 (here.1 a))

pub returns-in-None : goal.returns-in-None
returns-in-None c =
    let row = c.args.row.now in
    let among = subst (λ (frames : List Frame). IsAfter c.self.inside.last row ↔ AllByRecursion (IsAfterRow row) frames) c.self.view_is (c.self.invariant.rows row) in
    let here = subst (λ (last : Option RowPair). IsAfter last row ↔ AllByRecursion (IsAfterRow row) c.args.self.now) c.in-None.is among in
    (λ t. here.0 tt, λ a. refl)
