use Rattle.std.proofs.Common.{◌≡◌, ◌++◌, drop, length}
use Rattle.ds_base.specs.Keys.{key_of}
use Rattle.key_select.proofs.values.put_key.Given as goal

abbrev pub invariant-loop-i : goal.invariant-loop-i
invariant-loop-i l = record {
  filled : length l.key ≡ l.i;
  rest : key_of l.variables.items l.vals ≡ l.key ++ key_of (drop l.i l.variables.items) l.vals;
}
