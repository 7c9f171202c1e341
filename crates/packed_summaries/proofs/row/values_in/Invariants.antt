-- The values of the variables before this one, and those that are left.
use Rattle.std.proofs.Common.{◌≡◌, ◌++◌, drop, map, length}
use Rattle.packed_summaries.specs.Packing.{columns_of}
use Rattle.packed_summaries.specs.Rows.{value_in, values_in}
use Rattle.packed_summaries.proofs.row.values_in.Given as goal

abbrev pub invariant-loop-variable : goal.invariant-loop-variable
invariant-loop-variable l = record {
  filled : length l.vals ≡ l.variable;
  rest : values_in l.packing.wide l.row ≡ l.vals ++ map (value_in l.row) (drop l.variable (columns_of l.packing.wide));
}
