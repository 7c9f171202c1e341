use Rattle.std.proofs.Common.{◌≡◌, ◌-◌, ◌++◌, ◌∙◌, ℕ, Some, ap, sym, subst, arith}
use Rattle.watermarks.specs.Least.{least_mark}
use Rattle.window_grouper.specs.Grouping.{Grouping, OthersFrom}
use Rattle.window_grouper.specs.Sorted.{by_stamp}
use Rattle.window_grouper.proofs.Standing.{others_from}
use Rattle.window_grouper.proofs.grouper.Grouper.out_mark.Goals as goal

pub returns-in-Some-clause-others : goal.returns-in-Some-clause-others
returns-in-Some-clause-others c window added given later h settled late differ =
    let now = c.args.self.now in
    let width : c.window.result ≡ window = c.window.ensures ∙ ap (λ (n : Grouping). n.window) c.self.view_is ∙ h.one_window in
    let least : least_mark now.marks ≡ Some c.in-Some.mark =
    ap (λ (n : Grouping). least_mark n.marks) (sym c.self.view_is) ∙ sym c.least.ensures.value ∙ c.in-Some.is in
    let from : c.in-Some.mark - window ≡ c.saturating_sub.result = omega (arith, width) in
    subst (λ (m : ℕ). OthersFrom m window (by_stamp (added ++ later)) given) from
    (others_from now c.in-Some.mark window added given later least h settled late differ)
