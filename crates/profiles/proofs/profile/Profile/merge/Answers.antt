use Rattle.profiles.proofs.Merging.{AreJoined-merged, IsProfile-joined, count_of-joined}
use Rattle.profiles.proofs.profile.Profile.merge.Goals as goal

pub returns-clause-joined : goal.returns-clause-joined
returns-clause-joined c =
    AreJoined-merged c.args.self.now c.args.other.now c.self.inside.rows.items c.other.inside.rows.items c.put_rows.new.rows.items c.self.view_is c.other.view_is
    c.self.invariant c.other.invariant c.requires.few (rw (c.make_room.ensures.items, c.deref.ensures.value) at c.put_rows.ensures.items)

pub returns-clause-profile : goal.returns-clause-profile
returns-clause-profile c groups more p q =
    IsProfile-joined groups more c.args.self.now c.args.other.now c.put_rows.new.rows.items
    (AreJoined-merged c.args.self.now c.args.other.now c.self.inside.rows.items c.other.inside.rows.items c.put_rows.new.rows.items c.self.view_is c.other.view_is
    c.self.invariant c.other.invariant c.requires.few (rw (c.make_room.ensures.items, c.deref.ensures.value) at c.put_rows.ensures.items)) p q

pub returns-clause-counts : goal.returns-clause-counts
returns-clause-counts c from to =
    count_of-joined from to c.args.self.now c.args.other.now c.put_rows.new.rows.items
    (AreJoined-merged c.args.self.now c.args.other.now c.self.inside.rows.items c.other.inside.rows.items c.put_rows.new.rows.items c.self.view_is c.other.view_is
    c.self.invariant c.other.invariant c.requires.few (rw (c.make_room.ensures.items, c.deref.ensures.value) at c.put_rows.ensures.items))
