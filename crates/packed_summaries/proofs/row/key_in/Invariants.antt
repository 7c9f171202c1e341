-- The values of the key's variables before this one, and those that are left.
use Rattle.std.proofs.Common.{◌≡◌, ◌++◌, drop, length}
use Rattle.ds_base.specs.Keys.{key_of}
use Rattle.packed_summaries.specs.Rows.{values_in}
use Rattle.packed_summaries.proofs.row.key_in.Given as goal

abbrev pub invariant-loop-k : goal.invariant-loop-k
invariant-loop-k l = record {
  filled : length l.key ≡ l.k;
  rest : key_of l.packing.key (values_in l.packing.wide l.row) ≡ l.key ++ key_of (drop l.k l.packing.key) (values_in l.packing.wide l.row);
}
