use Rattle.std.proofs.Common.{◌≡◌, ◌+◌, drop}
use Rattle.query_lang.specs.Names.{word_in, place}
use Rattle.query_lang.proofs.names.number_of.Given as goal

abbrev pub invariant-loop-i : goal.invariant-loop-i
invariant-loop-i l = place l.names.items (word_in l.text l.word) ≡ l.i + place (drop l.i l.names.items) (word_in l.text l.word)
