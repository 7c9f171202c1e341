use Rattle.std.proofs.Common.{◌≡◌, ◌-◌, drop, length, vec_len, vec_capacity}
use Rattle.profiles.specs.Put.{CanJoin, put_all, HasRoom}
use Rattle.profiles.proofs.rows.put_rows.Given as goal

abbrev pub invariant-loop-i : goal.invariant-loop-i
invariant-loop-i l = record {
  can : CanJoin (drop l.i l.more) l.rows.items;
  joined : put_all (drop l.i l.more) l.rows.items ≡ put_all l.more l.initial.rows.items;
  room : HasRoom (vec_len l.rows) (vec_capacity l.rows) (length l.more - l.i);
}
