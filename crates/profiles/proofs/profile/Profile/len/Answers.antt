use Rattle.std.proofs.Common.{◌≤◌, ◌+◌, arith, length}
use Rattle.profiles.proofs.Places.{RiseFrom-kept, rows-few}
use Rattle.profiles.proofs.profile.Profile.len.Goals as goal

pub overflow_cast-result : goal.overflow_cast-result
overflow_cast-result c =
    let few : length c.self.inside.rows.items + 0 ≤ 4096 = rows-few 0 c.self.inside.rows.items (omega arith) (RiseFrom-kept c.self.inside.rows.items c.self.invariant) c.self.invariant.sound in
    omega (arith, few, c.len.ensures)

pub returns-clause-few : goal.returns-clause-few
returns-clause-few c =
    let few : length c.self.inside.rows.items + 0 ≤ 4096 = rows-few 0 c.self.inside.rows.items (omega arith) (RiseFrom-kept c.self.inside.rows.items c.self.invariant) c.self.invariant.sound in
    omega (arith, few, c.len.ensures)
