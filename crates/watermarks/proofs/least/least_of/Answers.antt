use Rattle.std.proofs.Common.{Option, ℕ, sym, ap, ◌∙◌, take}
use Rattle.watermarks.specs.Least.{least_mark, lesser}
use Rattle.watermarks.proofs.Lesser.{least-push}
use Rattle.watermarks.proofs.least.least_of.Goals as goal

pub loop-capture-preserved : goal.loop-capture-preserved
loop-capture-preserved c =
    let so_far = take c.loop-capture.capture c.args.marks.now in
    c.lesser_of-least.ensures
    ∙ ap (λ (m : Option ℕ). lesser m c.get.result) c.loop-capture.invariant
    ∙ sym (least-push so_far c.get.result)
    ∙ ap least_mark (sym c.get.ensures.next)
