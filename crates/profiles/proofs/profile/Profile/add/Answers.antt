use Rattle.std.proofs.Common.{sym, ap, subst, ◌∙◌}
use Rattle.ds_base.specs.Copies.{copies_of}
use Rattle.profiles.specs.Delays.{delays}
use Rattle.profiles.specs.Put.{AreKept, CanCount, count_all}
use Rattle.profiles.specs.Rows.{count_of}
use Rattle.profiles.proofs.Neighbours.{CanCount-group}
use Rattle.profiles.proofs.Counting.{IsProfile-count, count_of-count_all}
use Rattle.profiles.proofs.profile.Profile.add.Goals as goal

pub count_group-requires-clause-can : goal.count_group-requires-clause-can
count_group-requires-clause-can c =
    let members = c.args.group.now.members.items in
    let kept = subst AreKept c.self.view_is c.self.invariant in
    subst (CanCount (delays members)) (sym (c.make_room.ensures.items ∙ c.self.view_is))
    (CanCount-group members c.args.self.now kept c.requires.captures c.requires.hour c.requires.few)

pub returns-clause-profile : goal.returns-clause-profile
returns-clause-profile c groups p =
    let members = c.args.group.now.members.items in
    let kept = subst AreKept c.self.view_is c.self.invariant in
    let can = CanCount-group members c.args.self.now kept c.requires.captures c.requires.hour c.requires.few in
    IsProfile-count groups (copies_of c.args.group.now) c.args.self.now c.count_group.new.rows.items can
    (c.count_group.ensures.items ∙ ap (count_all (delays members)) (c.make_room.ensures.items ∙ c.self.view_is)) p

pub returns-clause-counts : goal.returns-clause-counts
returns-clause-counts c from to =
    let members = c.args.group.now.members.items in
    let kept = subst AreKept c.self.view_is c.self.invariant in
    let can = CanCount-group members c.args.self.now kept c.requires.captures c.requires.hour c.requires.few in
    ap (count_of from to) (c.count_group.ensures.items ∙ ap (count_all (delays members)) (c.make_room.ensures.items ∙ c.self.view_is))
    ∙ count_of-count_all from to (delays members) c.args.self.now can
