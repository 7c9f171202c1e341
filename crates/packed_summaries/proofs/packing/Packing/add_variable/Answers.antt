use Rattle.std.proofs.Common.{ℕ, ◌<◌, ◌+◌, ap, sym, subst, arith, length}
use Rattle.packed_summaries.specs.Packing.{Shape, widths}
use Rattle.packed_summaries.proofs.Columns.{count_widths, few_for, few_words, laid_more}
use Rattle.packed_summaries.proofs.packing.Packing.add_variable.Goals as goal

pub overflow_add-self : goal.overflow_add-self
overflow_add-self c =
    let p = c.self.inside in
    omega (arith, c.words_for.ensures, few_for c.args.wide, c.self.invariant.whole, c.self.invariant.few, count_widths p.columns.items, few_words (widths p.columns.items))

pub invariant_of-self-2 : goal.invariant_of-self-2
invariant_of-self-2 c =
    let p = c.self.inside in
    let some : length p.columns.items < 16 =
    subst (λ (n : ℕ). n < 16) (count_widths p.columns.items) (subst (λ (s : Shape). length s.wide < 16) (sym c.self.view_is) c.requires) in
    laid_more p.columns.items c.push.new.self.items p.stride (p.stride + c.words_for.result) p.key.items c.args.wide c.self.invariant some
    c.in-Ok.ensures.items (ap (λ (n : ℕ). p.stride + n) c.words_for.ensures)
