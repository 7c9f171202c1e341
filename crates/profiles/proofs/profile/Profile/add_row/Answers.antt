use Rattle.std.proofs.Common.{ap, ◌∙◌}
use Rattle.profiles.specs.Put.{put}
use Rattle.profiles.proofs.Merging.{AreKept-added, AreJoined-added, IsProfile-joined}
use Rattle.profiles.proofs.profile.Profile.add_row.Goals as goal

pub invariant_of-self-2 : goal.invariant_of-self-2
invariant_of-self-2 c =
    AreKept-added c.args.row.now c.args.self.now c.self.inside.rows.items c.put_row.new.rows.items c.self.view_is c.self.invariant c.requires.sound c.show_width.ensures c.requires.few
    (c.put_row.ensures.items ∙ ap (put c.args.row.now) c.make_room.ensures.items)

pub returns-clause-joined : goal.returns-clause-joined
returns-clause-joined c =
    AreJoined-added c.args.row.now c.args.self.now c.self.inside.rows.items c.put_row.new.rows.items c.self.view_is c.self.invariant c.requires.sound c.show_width.ensures c.requires.few
    (c.put_row.ensures.items ∙ ap (put c.args.row.now) c.make_room.ensures.items)

pub returns-clause-profile : goal.returns-clause-profile
returns-clause-profile c groups more p q =
    IsProfile-joined groups more c.args.self.now _ c.put_row.new.rows.items
    (AreJoined-added c.args.row.now c.args.self.now c.self.inside.rows.items c.put_row.new.rows.items c.self.view_is c.self.invariant c.requires.sound c.show_width.ensures c.requires.few
    (c.put_row.ensures.items ∙ ap (put c.args.row.now) c.make_room.ensures.items)) p q
