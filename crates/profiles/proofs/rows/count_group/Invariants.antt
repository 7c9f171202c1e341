use Rattle.std.proofs.Common.{◌≡◌, ◌-◌, drop, vec_len, vec_capacity}
use Rattle.profiles.specs.Delays.{delays}
use Rattle.profiles.specs.Put.{CanCount, count_all, HasRoom}
use Rattle.profiles.proofs.rows.count_group.Given as goal

abbrev pub invariant-loop-i : goal.invariant-loop-i
invariant-loop-i l = record {
  can : CanCount (delays (drop l.i l.members.items)) l.rows.items;
  counted : count_all (delays (drop l.i l.members.items)) l.rows.items ≡ count_all (delays l.members.items) l.initial.rows.items;
  room : HasRoom (vec_len l.rows) (vec_capacity l.rows) (l.last - l.i);
}
