-- The values of options as they are shown, and the sizes that they say.
use Rattle.std.proofs.Common.{ℕ, List, Option, Some, None, IfNone, option_map, map, get_or, ◌≡◌, ap, ◌∙◌, Bor, subst}
use Rattle.std.proofs.Math.ListN.{get_or-map}
use Rattle.command_words.specs.declared.command.Sizes.{Sizes}
use Rattle.command_words.specs.Reading.{one_or_none}

-- what is shown of the list's item is the item of the list that is shown
pub shown : (P : List (List ℕ) → Type 0) (values : List (Option (Bor (List ℕ)))) (k : ℕ)
    → P (one_or_none (get_or (map (λ v. option_map (λ w. w.now) v) values) k None))
    → P (one_or_none (option_map (λ w. w.now) (get_or values k None)))
shown P values k h =
    subst (λ o. P (one_or_none o)) (get_or-map (λ (v : Option (Bor (List ℕ))). option_map (λ (w : Bor (List ℕ)). w.now) v) values k None) h

-- what holds anyway holds where there is nothing
pub anyway : {A : Type 0} (o : Option A) (X : Type 0) → X → IfNone o X
anyway None X x = x
anyway (Some a) X x = tt

-- sizes are the same where each number is
abbrev sizes : (parsers groupers processors credits : ℕ) → Sizes
sizes parsers groupers processors credits = record { parsers = parsers; groupers = groupers; processors = processors; credits = credits }

pub same_fields : (s : Sizes) (parsers groupers processors credits : ℕ) → s.parsers ≡ parsers → s.groupers ≡ groupers
    → s.processors ≡ processors → s.credits ≡ credits
    → s ≡ record { parsers = parsers; groupers = groupers; processors = processors; credits = credits }
same_fields s parsers groupers processors credits p g q c =
    ap (λ x. sizes x s.groupers s.processors s.credits) p ∙ ap (λ x. sizes parsers x s.processors s.credits) g
    ∙ ap (λ x. sizes parsers groupers x s.credits) q ∙ ap (λ x. sizes parsers groupers processors x) c
