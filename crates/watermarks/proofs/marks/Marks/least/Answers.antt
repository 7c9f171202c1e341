use Rattle.std.proofs.Common.{◌≡◌, subst, sym, ap, ◌∙◌}
use Rattle.watermarks.specs.Least.{IsLeast, least_mark}
use Rattle.watermarks.proofs.Lesser.{is_least}
use Rattle.watermarks.proofs.marks.Marks.least.Goals as goal

pub returns-clause-least : goal.returns-clause-least
returns-clause-least c =
    let same : c.self.inside.least ≡ least_mark c.args.self.now = c.self.invariant.value ∙ ap least_mark c.self.view_is in
    subst (IsLeast c.args.self.now) (sym same) (is_least c.args.self.now)
