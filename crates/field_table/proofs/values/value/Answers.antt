use Rattle.std.proofs.Common.{Some, sym, ap, ◌∙◌, arith}
use Rattle.field_table.proofs.ValueLemmas.{row_fits, before_first, value_none, value_short, value_inside}
use Rattle.field_table.proofs.values.value.Goals as goal

pub returns-in_err-first : goal.returns-in_err-first
returns-in_err-first c =
    let row = c.layout-layout.ensures in
    c.from_residual.ensures ∙ sym (value_none c.args.kind c.args.field c.args.slice.now c.layout-layout.result row (sym c.first_bit.ensures ∙ c.in_err-first.was))

pub returns-then-slice-end : goal.returns-then-slice-end
returns-then-slice-end c =
    let row = c.layout-layout.ensures in
    sym (value_short c.args.kind c.args.field c.args.slice.now c.layout-layout.result c.in_ok-first.first row (sym c.first_bit.ensures ∙ c.in_ok-first.was) (omega arith))

pub bits_at-requires-clause-some : goal.bits_at-requires-clause-some
bits_at-requires-clause-some c = (row_fits c.args.kind c.args.field c.layout-layout.result c.layout-layout.ensures).0

pub bits_at-requires-clause-narrow : goal.bits_at-requires-clause-narrow
bits_at-requires-clause-narrow c =
    let fits = row_fits c.args.kind c.args.field c.layout-layout.result c.layout-layout.ensures in
    let before = before_first c.layout-layout.result.start c.args.slice.now c.in_ok-first.first (sym c.first_bit.ensures ∙ c.in_ok-first.was) in
    omega arith

pub returns : goal.returns
returns c =
    let row = c.layout-layout.ensures in
    ap Some c.bits_at.ensures ∙ sym (value_inside c.args.kind c.args.field c.args.slice.now c.layout-layout.result c.in_ok-first.first row (sym c.first_bit.ensures ∙ c.in_ok-first.was) (omega arith))
