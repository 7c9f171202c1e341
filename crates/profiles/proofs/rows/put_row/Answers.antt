use Rattle.std.proofs.Common.{sym}
use Rattle.profiles.proofs.Kept.{insert-room}
use Rattle.profiles.proofs.rows.put_row.Goals as goal

pub insert_row-requires-clause-room : goal.insert_row-requires-clause-room
insert_row-requires-clause-room c =
    insert-room _ _ c.number_of.result c.args.row.now c.deref.result.now c.args.rows.now.items c.in-Err.place c.requires.kept
    c.requires.sound c.requires.width c.requires.few
    c.deref.ensures.value c.deref.ensures.len c.in-Err.ensures.found (sym c.number_of.ensures) c.requires.room
