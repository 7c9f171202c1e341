use Rattle.std.proofs.Common.{sym}
use Rattle.profiles.specs.Delays.{Delay}
use Rattle.profiles.specs.Put.{single}
use Rattle.profiles.proofs.Kept.{IsSound-single, width-single, insert-room, put-found}
use Rattle.profiles.proofs.rows.count.Goals as goal

pub insert_row-requires-clause-room : goal.insert_row-requires-clause-room
insert_row-requires-clause-room c =
    let d : Delay = record { from = c.args.from; to = c.args.to; time = c.args.time } in
    insert-room _ _ c.number_of.result (single d) c.deref.result.now c.args.rows.now.items c.in-Err.place c.requires.kept
    (IsSound-single d c.requires.from_below c.requires.to_below c.requires.hour) (width-single d) c.requires.few
    c.deref.ensures.value c.deref.ensures.len c.in-Err.ensures.found (sym c.number_of.ensures) c.requires.room

pub returns-in-Ok-clause-items : goal.returns-in-Ok-clause-items
returns-in-Ok-clause-items c =
    let d : Delay = record { from = c.args.from; to = c.args.to; time = c.args.time } in
    put-found c.number_of.result (single d) c.deref.result.now c.args.rows.now.items c.in-Ok.place c.index_mut.result.now _
    c.deref.ensures.value c.in-Ok.ensures.found (sym c.number_of.ensures) c.index_mut.ensures.value c.count_delay.ensures
