use Rattle.std.proofs.Common.{ℕ, List, [], ◌∷◌, ◌++◌, ◌≡◌, true, false, length, sym, ap, ◌∙◌}
use Rattle.std.specs.Prelude.{◌==◌}
use Rattle.std.proofs.lemmas.List.{append-nil, append_cancel_left}
use Rattle.command_words.specs.Reading.{NoOption}
use Rattle.command_words.proofs.shape.one_option.Goals as goal

nothing_behind : (word name : List ℕ) → ((rest : List ℕ) → word ≡ name ++ rest → ⊥) → NoOption name word
nothing_behind word name none = (λ e. none [] (e ∙ sym (append-nil name)), λ v e. none (61 ∷ v) e)

other_behind : (word name rest : List ℕ) → word ≡ name ++ rest → (rest ≡ [] → ⊥) → ((more : List ℕ) → rest ≡ (61 ∷ []) ++ more → ⊥) → NoOption name word
other_behind word name rest is some none = (
  λ e. some (append_cancel_left name rest [] (sym is ∙ e ∙ sym (append-nil name))),
  λ v e. none v (append_cancel_left name rest (61 ∷ v) (sym is ∙ e)),
)

pub returns-in_default-clause-none : goal.returns-in_default-clause-none
returns-in_default-clause-none c = nothing_behind c.args.word.now c.args.name.now c.in_default.ensures

pub returns-in-None-clause-none : goal.returns-in-None-clause-none
returns-in-None-clause-none c =
    let some : c.in-Some.rest.now ≡ [] → ⊥ = λ e. (let t : false ≡ true = c.if-is_empty.ensures ∙ ap (λ x. length x == 0) e in cc) in
    other_behind c.args.word.now c.args.name.now c.in-Some.rest.now c.in-Some.ensures some c.in-None.ensures
