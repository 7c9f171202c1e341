use Rattle.std.proofs.Common.{refl}
use Rattle.std.proofs.lemmas.List.{map-set}
use Rattle.command_words.proofs.reading.take_word.Goals as goal

pub returns-clause-becomes : goal.returns-clause-becomes
returns-clause-becomes c = (refl, map-set (λ w. w.now) c.args.read.plain c.args.read.count c.args.word, refl, refl)
