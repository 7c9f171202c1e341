use Rattle.std.proofs.Common.{◌≡◌, List, ap, sym, ◌∙◌}
use Rattle.std.specs.List.{list_any}
use Rattle.node_frames.specs.declared.frame.Frame.{Frame}
use Rattle.frame_order.specs.Said.{is_row_of}
use Rattle.frame_order.proofs.Rows.{row_came, came_row}
use Rattle.frame_order.proofs.counts_order.CountsOrder.has_row.Goals as goal

pub returns-clause-came : goal.returns-clause-came
returns-clause-came c =
    let is : c.get.result ≡ list_any (is_row_of c.args.c) c.args.self.now =
    c.get.ensures ∙ c.self.invariant.came c.args.c c.requires ∙ ap (λ (frames : List Frame). list_any (is_row_of c.args.c) frames) c.self.view_is in
    (λ t. row_came c.args.c c.args.self.now (sym is ∙ t), λ h. is ∙ came_row c.args.c c.args.self.now h)
