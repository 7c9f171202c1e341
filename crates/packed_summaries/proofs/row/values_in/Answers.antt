use Rattle.std.proofs.Common.{ℕ, ◌≤◌, ◌+◌, ◌∙◌, ap, arith, length}
use Rattle.packed_summaries.specs.Packing.{columns_of}
use Rattle.packed_summaries.specs.Rows.{value_in, values_in}
use Rattle.packed_summaries.proofs.Columns.{count_columns}
use Rattle.packed_summaries.proofs.Unpacked.{mapped_more, mapped_all}
use Rattle.std.proofs.lemmas.List.{length_push}
use Rattle.packed_summaries.proofs.row.values_in.Goals as goal

pub loop-variable-preserved : goal.loop-variable-preserved
loop-variable-preserved c =
    let wide = c.args.packing.now.wide in
    let row = c.args.row.now in
    record {
      filled = ap length c.push.ensures ∙ length_push c.loop-variable.vals c.value_in.result ∙ ap (λ (n : ℕ). n + 1) c.loop-variable.invariant.filled;
      rest = mapped_more (value_in row) (columns_of wide) c.loop-variable.variable c.column.result c.value_in.result c.loop-variable.vals
          c.push.new.self (values_in wide row) c.column.ensures.value c.value_in.ensures c.push.ensures c.loop-variable.invariant.rest;
    }

pub returns : goal.returns
returns c =
    let wide = c.args.packing.now.wide in
    let long : length (columns_of wide) ≤ c.loop-variable.variable = omega (arith, count_columns 2 wide) in
    mapped_all (value_in c.args.row.now) (columns_of wide) c.loop-variable.variable c.loop-variable.vals (values_in wide c.args.row.now) long
    c.loop-variable.invariant.rest
