use Rattle.std.proofs.Common.{arith}
use Rattle.profiles.proofs.Places.{RiseFrom-kept, rows-few}
use Rattle.profiles.proofs.rows.make_room.Goals as goal

pub overflow_sub-lacking : goal.overflow_sub-lacking
overflow_sub-lacking c =
    let rows = c.args.rows.now.items in
    omega (arith, rows-few 0 rows (omega arith) (RiseFrom-kept rows c.requires.kept) c.requires.kept.sound)
