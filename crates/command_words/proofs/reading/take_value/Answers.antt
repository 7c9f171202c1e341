use Rattle.std.proofs.Common.{Some, refl, option_map}
use Rattle.std.proofs.lemmas.List.{map-set}
use Rattle.command_words.proofs.reading.take_value.Goals as goal

pub returns-clause-becomes : goal.returns-clause-becomes
returns-clause-becomes c = (refl, refl, map-set (λ v. option_map (λ w. w.now) v) c.args.read.values c.args.option (Some c.args.value), refl)
