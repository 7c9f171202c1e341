use Rattle.std.proofs.Common.{◌<◌, ◌^◌, arith}
use Rattle.profiles.proofs.Classes.{class-digits, class-few}
use Rattle.profiles.proofs.row.class_number.Goals as goal

pub returns-clause-class : goal.returns-clause-class
returns-clause-class c = class-digits c.args.time (omega (arith, c.requires.hour))

pub returns-clause-few : goal.returns-clause-few
returns-clause-few c = let within : c.args.time < 2 ^ 64 = omega (arith, c.requires.hour) in omega (arith, class-digits c.args.time within, class-few c.args.time c.requires.hour)
