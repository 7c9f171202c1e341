use Rattle.std.proofs.Common.{ℕ, List, [], ◌<◌, map, get_or, below_more, Bor, sym, subst, length}
use Rattle.std.proofs.lemmas.List.{get_or-map}
use Rattle.command_words.specs.declared.kind.WordKind.{WordKind}
use Rattle.command_words.specs.Reading.{NoOption}
use Rattle.command_words.proofs.shape.option_of.Goals as goal

named : (options : List (Bor (List ℕ) × WordKind)) (k : ℕ) (d : Bor (List ℕ) × WordKind) (w : List ℕ) → k < length options
    → NoOption (get_or options k d).0.now w → NoOption (get_or (map (λ o. o.0.now) options) k []) w
named options k d w less h = subst (λ name. NoOption name w) (sym (get_or-map (λ (o : Bor (List ℕ) × WordKind). o.0.now) options k d [] less)) h

pub loop-k-preserved : goal.loop-k-preserved
loop-k-preserved c =
    below_more (λ j. NoOption (get_or (map (λ o. o.0.now) c.args.options.now) j []) c.args.word.now) c.loop-k.k c.loop-k.invariant
    (named c.args.options.now c.loop-k.k _ c.args.word.now c.loop-k-test.true c.in_default.ensures.none)
