use Rattle.std.proofs.Common.{◌≡◌, ◌<◌, ◌≤◌, ◌+◌, sym, subst, length}
use Rattle.std.specs.Prelude.{Some, slice_get}
use Rattle.packed_summaries.specs.declared.packing.Column.{Column}
use Rattle.packed_summaries.specs.Packing.{Shape, row_len, words_for}
use Rattle.packed_summaries.proofs.Columns.{column_at}
use Rattle.packed_summaries.proofs.packing.Packing.column.Goals as goal

pub returns-clause-inside : goal.returns-clause-inside
returns-clause-inside c =
    let p = c.self.inside in
    let r : Column = c.index.result.now in
    let both = column_at p.columns.items p.stride p.key.items c.args.variable r c.self.invariant
    (subst (λ (s : Shape). c.args.variable < length s.wide) (sym c.self.view_is) c.requires) c.index.ensures in
    subst (λ (s : Shape). r.start + words_for r.wide ≤ row_len s.wide) c.self.view_is both.0

pub returns-clause-width : goal.returns-clause-width
returns-clause-width c =
    let p = c.self.inside in
    let r : Column = c.index.result.now in
    let both = column_at p.columns.items p.stride p.key.items c.args.variable r c.self.invariant
    (subst (λ (s : Shape). c.args.variable < length s.wide) (sym c.self.view_is) c.requires) c.index.ensures in
    subst (λ (s : Shape). slice_get s.wide c.args.variable ≡ Some r.wide) c.self.view_is both.1
