use Rattle.std.proofs.Common.{ℕ, ◌<◌, ◌≡◌, List, Option, Some, None, false, true, length, refl, sym, subst, arith, ◌∙◌, ap}
use Rattle.std.proofs.lemmas.List.{get_or_read_under}
use Rattle.key_select.specs.Tally.{newest_of}
use Rattle.parser_captures.specs.Choice.{IsBest, IsLeast, capture_in}
use Rattle.net_law.specs.Parsers.{IsBehind}
use Rattle.parser_captures.specs.declared.capture.OneCapture.{OneCapture}
use Rattle.parser_captures.proofs.Choosing.{first_least, next_least}
use Rattle.parser_captures.proofs.choice.better.Goals as goal

pub returns-in_default : goal.returns-in_default
returns-in_default c =
    let cs : List OneCapture = c.args.captures.now.items in
    let B : Option ℕ → Type 0 = λ o. IsBest cs c.args.i o in
    let here : (d : OneCapture) → c.index.result.now ≡ capture_in cs c.args.i d = λ d. get_or_read_under cs c.args.i (length cs) c.index.result.now d c.index.ensures c.requires.there refl in
    record {
      best = first_least cs c.args.i (subst B c.in_default.is c.requires.so_far) (λ d. sym (ap (λ (x : OneCapture). x.ended) (here d)) ∙ c.if-index.false);
    }

pub returns-then-comes_first : goal.returns-then-comes_first
returns-then-comes_first c =
    let cs : List OneCapture = c.args.captures.now.items in
    let B : Option ℕ → Type 0 = λ o. IsBest cs c.args.i o in
    let best : IsLeast cs c.args.i c.in-Some.b = subst B c.in-Some.is c.requires.so_far in
    let here : (d : OneCapture) → c.index.result.now ≡ capture_in cs c.args.i d = λ d. get_or_read_under cs c.args.i (length cs) c.index.result.now d c.index.ensures c.requires.there refl in
    let mine : (d : OneCapture) → c.index-2.result.now ≡ capture_in cs c.args.i d = λ d. get_or_read_under cs c.args.i (length cs) c.index-2.result.now d c.index-2.ensures c.requires.there refl in
    let other : (d : OneCapture) → c.index-3.result.now ≡ capture_in cs c.in-Some.b d = λ d.
    get_or_read_under cs c.in-Some.b (length cs) c.index-3.result.now d c.index-3.ensures (omega (arith, best.there, c.requires.there)) refl in
    let newest : OneCapture → Option ℕ = λ x. newest_of x.tally in
    record {
      best = next_least cs c.args.i c.in-Some.b best (λ d. sym (ap (λ (x : OneCapture). x.ended) (here d)) ∙ c.if-index.false)
          (λ d.
          subst (λ (o : Option ℕ). IsBehind o (newest (capture_in cs c.in-Some.b d))) (c.newest.ensures ∙ ap newest (mine d))
          (subst (λ (o : Option ℕ). IsBehind c.newest.result o) (c.newest-2.ensures ∙ ap newest (other d)) (c.if-comes_first.ensures.first refl)));
    }
