-- The place where words are refused.
use Rattle.std.proofs.Common.{ℕ, List, [], ◌∷◌, ◌++◌, ◌≡◌, ◌<◌, ◌+◌, length, take, drop, refl, sym, ap, ◌∙◌, subst, append_assoc, arith}
use Rattle.std.proofs.lemmas.List.{append-nil, take-append-drop, take-take}
use Rattle.command_words.specs.declared.table.Name.TheVariants.{Help}
use Rattle.command_words.specs.CommandTable.{command_word}
use Rattle.command_words.specs.Words.{Asked, Accepts, Begins, IsPlace}
use Rattle.command_words.specs.Words.Asked.{AskedHelp}
use Rattle.command_words.proofs.Asking.{accepts}

-- words that are accepted, or that begin such words, have fronts that begin such words
pub front_begins : (ws : List (List ℕ)) (k : ℕ) → Begins ws → Begins (take k ws)
front_begins ws k b =
    (drop k ws ++ b.0, b.1, subst (λ x. Accepts x b.1) (ap (λ x. x ++ b.0) (sym (take-append-drop k ws)) ∙ append_assoc (take k ws) (drop k ws) b.0) b.2)

pub accepted_begins : (ws : List (List ℕ)) (a : Asked) → Accepts ws a → Begins ws
accepted_begins ws a h = ([], a, subst (λ x. Accepts x a) (sym (append-nil ws)) h)

-- no words at all begin an accepted list
pub nothing_begins : Begins []
nothing_begins =
    (command_word Help ∷ [], AskedHelp, accepts Help [] [] AskedHelp refl (record { form = tt; plain = tt; options = λ k. tt }) (refl, tt))

-- a word at which words are refused
pub place_at : (ws : List (List ℕ)) (k : ℕ) → k < length ws → Begins (take k ws) → (Begins (take (k + 1) ws) → ⊥) → IsPlace ws k
place_at ws k less begun ended =
    record {
      within = omega arith;
      begun = begun;
      ended = λ h. ended;
      none = λ a h. ended (front_begins ws (k + 1) (accepted_begins ws a h));
    }

-- the end of words that are not whole
pub place_end : (ws : List (List ℕ)) (k : ℕ) → k ≡ length ws → Begins ws → ((a : Asked) → Accepts ws a → ⊥) → IsPlace ws k
place_end ws k e begun none =
    record {
      within = omega (arith, e);
      begun = front_begins ws k begun;
      ended = λ less. absurd (omega (arith, less, e));
      none = none;
    }

not_before : (ws : List (List ℕ)) (j k : ℕ) → IsPlace ws j → IsPlace ws k → j < k → ⊥
not_before ws j k p q less =
    p.ended (omega (arith, less, q.within)) (subst Begins (take-take (j + 1) k ws (omega (arith, less))) (front_begins (take k ws) (j + 1) q.begun))

-- words are refused at one place
pub one_place : (ws : List (List ℕ)) (j k : ℕ) → IsPlace ws j → IsPlace ws k → j ≡ k
one_place ws j k p q =
    let low = not_before ws j k p q in
    let high = not_before ws k j q p in
    omega (arith, low, high)
