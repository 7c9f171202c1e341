use Rattle.profiles.specs.Rows.{class_of}
use Rattle.profiles.proofs.Classes.{class-few, added-one}
use Rattle.profiles.proofs.row.count_delay.Goals as goal

pub returns : goal.returns
returns c =
    let e = added-one 64 (class_of c.args.time) c.args.row.now.classes (class-few c.args.time c.requires.hour) in
    cc (e, c.from.ensures, c.min-row.ensures, c.max-row.ensures, c.class_number.ensures.class)
