-- The words of the values before this variable are put, and there is room for those that are left.
use Rattle.std.proofs.Common.{◌≡◌, ◌≤◌, ◌+◌, ◌++◌, drop, vec_len}
use Rattle.std.specs.Vec.{vec_capacity}
use Rattle.packed_summaries.specs.Packing.{words_in}
use Rattle.packed_summaries.specs.Rows.{HaveWidths, values_words}
use Rattle.packed_summaries.proofs.row.push_values.Given as goal

abbrev pub invariant-loop-variable : goal.invariant-loop-variable
invariant-loop-variable l = record {
  words : l.words.items ++ values_words (drop l.variable l.packing.wide) (drop l.variable l.vals)
      ≡ l.initial.words.items ++ values_words l.packing.wide l.vals;
  room : vec_len l.words + words_in (drop l.variable l.packing.wide) ≤ vec_capacity l.words;
  fit : HaveWidths (drop l.variable l.packing.wide) (drop l.variable l.vals);
}
