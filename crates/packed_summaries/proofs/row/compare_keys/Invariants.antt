-- What is left of the keys has the order of the whole keys.
use Rattle.std.proofs.Common.{◌≡◌, drop}
use Rattle.std.specs.Ordering.{nat_cmp}
use Rattle.std.specs.Cmp.Lexicographic.{slice_cmp}
use Rattle.ds_base.specs.Keys.{key_of}
use Rattle.packed_summaries.specs.Rows.{summary_in, values_in}
use Rattle.packed_summaries.proofs.row.compare_keys.Given as goal

abbrev pub invariant-loop-k : goal.invariant-loop-k
invariant-loop-k l =
    slice_cmp nat_cmp (key_of (drop l.k l.packing.key) (values_in l.packing.wide l.first)) (key_of (drop l.k l.packing.key) (values_in l.packing.wide l.second))
    ≡ slice_cmp nat_cmp (summary_in l.packing l.first).key (summary_in l.packing l.second).key
