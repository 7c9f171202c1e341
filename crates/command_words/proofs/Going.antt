-- The words one by one: what holds with one word more holds of all words.
use Rattle.std.proofs.Common.{ℕ, suc, List, [], ◌∷◌, ◌++◌, ◌≡◌, ◌<◌, ◌≤◌, ◌+◌, ◌-◌, Result, Ok, Err, IfOk, IfErr, length, map, take, drop, get_or, refl, sym, ap, ◌∙◌, subst, append_assoc, arith}
use Rattle.std.proofs.lemmas.List.{append-nil, length-append, take_all}
use Rattle.std.proofs.Math.Seq.{take-append_seam, take-append-add}
use Rattle.command_words.specs.declared.table.Name.{Name}
use Rattle.command_words.specs.declared.reading.Read.{Read}
use Rattle.command_words.specs.declared.command.Command.{Command}
use Rattle.command_words.specs.declared.words.Misplaced.{Misplaced}
use Rattle.command_words.specs.CommandTable.{command_word}
use Rattle.command_words.specs.Words.{Asked, Accepts, Begins, IsPlace, command_of}
use Rattle.command_words.specs.Command.{asked_of}
use Rattle.command_words.specs.Reading.{Stands, Goes, shown_words, shown_values}
use Rattle.command_words.proofs.Complete.{goes_on, begins, goes}
use Rattle.command_words.proofs.Places.{nothing_begins, place_at, place_end, one_place}

-- a list by its length and its first item
pub no_items : {A : Type 0} (show : A → List ℕ) (xs : List A) → length xs < 1 → map show xs ≡ []
no_items show [] less = refl
no_items show (x ∷ xs) less = absurd (omega arith)

pub some_items : {A : Type 0} (show : A → List ℕ) (xs : List A) (x : A) (w : List ℕ) → 1 ≤ length xs → x ≡ get_or xs 0 x → w ≡ show x
    → map show xs ≡ w ∷ map show (take (length xs - 1) (drop 1 xs))
some_items show [] x w less at is = absurd (omega arith)
some_items show (y ∷ xs) x w less at is =
    ap (λ v. v ∷ map show xs) (sym (is ∙ ap show at)) ∙ ap (λ ys. w ∷ map show ys) (sym (take_all (length (y ∷ xs) - 1) xs (omega arith)))

pub all_read : (front tail : List (List ℕ)) → tail ≡ [] → front ++ tail ≡ front
all_read front tail e = ap (λ x. front ++ x) e ∙ append-nil front

one_more : (front whole tail : List (List ℕ)) (w : List ℕ) → whole ≡ w ∷ tail → front ++ whole ≡ (front ++ (w ∷ [])) ++ tail
one_more front whole tail w e = ap (λ x. front ++ x) e ∙ sym (append_assoc front (w ∷ []) tail)

read_begins : (c : Name) (r : Read) (front : List (List ℕ)) → Stands c r front → Begins (command_word c ∷ front)
read_begins c r front h = begins c front (goes_on c r.count (shown_words r) (shown_values r) r.waiting front h)

pub end_only : (c : Name) (front tail : List (List ℕ)) (a b : Asked) → tail ≡ []
    → ((other : Asked) → Accepts (command_word c ∷ front) other → other ≡ a) → Accepts (command_word c ∷ (front ++ tail)) b → b ≡ a
end_only c front tail a b e only acc = only b (subst (λ x. Accepts (command_word c ∷ x) b) (all_read front tail e) acc)

pub end_place : (c : Name) (r : Read) (front tail : List (List ℕ)) (place : ℕ) → tail ≡ [] → Stands c r front → place ≡ length front + 1
    → ((other : Asked) → Accepts (command_word c ∷ front) other → ⊥) → IsPlace (command_word c ∷ (front ++ tail)) place
end_place c r front tail place e h at none =
    subst (λ x. IsPlace (command_word c ∷ x) place) (sym (all_read front tail e))
    (place_end (command_word c ∷ front) place (omega (arith, at)) (read_begins c r front h) none)

-- a word with which nothing goes on is the place
pub word_place : (c : Name) (r : Read) (front whole tail : List (List ℕ)) (w : List ℕ) (place : ℕ) → whole ≡ w ∷ tail → Stands c r front
    → place ≡ length front + 1 → (Goes c (front ++ (w ∷ [])) → ⊥) → IsPlace (command_word c ∷ (front ++ whole)) place
word_place c r front whole tail w place e h at refused =
    let n : place ≡ suc (length front) = omega (arith, at) in
    let m : place + 1 ≡ suc (length front + 1) = omega (arith, at) in
    let before : take place (command_word c ∷ (front ++ whole)) ≡ command_word c ∷ front =
    ap (λ k. take k (command_word c ∷ (front ++ whole))) n ∙ ap (λ x. command_word c ∷ x) (take-append_seam front whole) in
    let with_it : take (place + 1) (command_word c ∷ (front ++ whole)) ≡ command_word c ∷ (front ++ (w ∷ [])) =
    ap (λ k. take k (command_word c ∷ (front ++ whole))) m
    ∙ ap (λ x. command_word c ∷ x) (take-append-add front whole 1 ∙ ap (λ x. front ++ take 1 x) e) in
    let long : length (front ++ whole) ≡ length front + length whole = length-append front whole in
    let some : length whole ≡ length (w ∷ tail) = ap length e in
    place_at (command_word c ∷ (front ++ whole)) place (omega (arith, at, long, some))
    (subst Begins (sym before) (read_begins c r front h))
    (λ b. refused (goes c (front ++ (w ∷ [])) (subst Begins with_it b)))

-- what holds of the words behind a word holds with it
pub go_accepts : (c : Name) (r next : Read) (whole tail : List (List ℕ)) (w : List ℕ) (res : Result Command Misplaced) → whole ≡ w ∷ tail
    → ((ws : List (List ℕ)) → Stands c r ws → Stands c next (ws ++ (w ∷ [])))
    → IfOk res (λ made. (front : List (List ℕ)) → Stands c next front → Accepts (command_word c ∷ (front ++ tail)) (asked_of made))
    → IfOk res (λ made. (front : List (List ℕ)) → Stands c r front → Accepts (command_word c ∷ (front ++ whole)) (asked_of made))
go_accepts c r next whole tail w (Err bad) e step h = tt
go_accepts c r next whole tail w (Ok made) e step h =
    λ front s. subst (λ x. Accepts (command_word c ∷ x) (asked_of made)) (sym (one_more front whole tail w e)) (h (front ++ (w ∷ [])) (step front s))

pub go_only : (c : Name) (r next : Read) (whole tail : List (List ℕ)) (w : List ℕ) (res : Result Command Misplaced) → whole ≡ w ∷ tail
    → ((ws : List (List ℕ)) → Stands c r ws → Stands c next (ws ++ (w ∷ [])))
    → IfOk res (λ made. (front : List (List ℕ)) → Stands c next front → (other : Asked) → Accepts (command_word c ∷ (front ++ tail)) other → other ≡ asked_of made)
    → IfOk res (λ made. (front : List (List ℕ)) → Stands c r front → (other : Asked) → Accepts (command_word c ∷ (front ++ whole)) other → other ≡ asked_of made)
go_only c r next whole tail w (Err bad) e step h = tt
go_only c r next whole tail w (Ok made) e step h =
    λ front s other acc. h (front ++ (w ∷ [])) (step front s) other (subst (λ x. Accepts (command_word c ∷ x) other) (one_more front whole tail w e) acc)

pub go_refused : (c : Name) (r next : Read) (whole tail : List (List ℕ)) (w : List ℕ) (place : ℕ) (res : Result Command Misplaced) → whole ≡ w ∷ tail
    → ((ws : List (List ℕ)) → Stands c r ws → Stands c next (ws ++ (w ∷ [])))
    → IfErr res (λ bad. (front : List (List ℕ)) → Stands c next front → place + 1 ≡ length front + 1 → IsPlace (command_word c ∷ (front ++ tail)) bad.place)
    → IfErr res (λ bad. (front : List (List ℕ)) → Stands c r front → place ≡ length front + 1 → IsPlace (command_word c ∷ (front ++ whole)) bad.place)
go_refused c r next whole tail w place (Ok made) e step h = tt
go_refused c r next whole tail w place (Err bad) e step h =
    λ front s at. (let long : length (front ++ (w ∷ [])) ≡ length front + 1 = length-append front (w ∷ []) in
    subst (λ x. IsPlace (command_word c ∷ x) bad.place) (sym (one_more front whole tail w e)) (h (front ++ (w ∷ [])) (step front s) (omega (arith, at, long))))

-- the whole list: its first word is the command's
pub first_accepts : (c : Name) (r : Read) (words tail : List (List ℕ)) (w : List ℕ) (res : Result Command Misplaced) → words ≡ w ∷ tail → w ≡ command_word c → Stands c r []
    → IfOk res (λ made. (front : List (List ℕ)) → Stands c r front → Accepts (command_word c ∷ (front ++ tail)) (asked_of made))
    → IfOk res (λ made. Accepts words (asked_of made))
first_accepts c r words tail w (Err bad) e is s h = tt
first_accepts c r words tail w (Ok made) e is s h = subst (λ x. Accepts x (asked_of made)) (sym (e ∙ ap (λ x. x ∷ tail) is)) (h [] s)

pub first_only : (c : Name) (r : Read) (words tail : List (List ℕ)) (w : List ℕ) (res : Result Command Misplaced) → words ≡ w ∷ tail → w ≡ command_word c → Stands c r []
    → IfOk res (λ made. (front : List (List ℕ)) → Stands c r front → (other : Asked) → Accepts (command_word c ∷ (front ++ tail)) other → other ≡ asked_of made)
    → IfOk res (λ made. (other : Asked) → Accepts words other → other ≡ asked_of made)
first_only c r words tail w (Err bad) e is s h = tt
first_only c r words tail w (Ok made) e is s h = λ other acc. h [] s other (subst (λ x. Accepts x other) (e ∙ ap (λ x. x ∷ tail) is) acc)

pub first_refused : (c : Name) (r : Read) (words tail : List (List ℕ)) (w : List ℕ) (res : Result Command Misplaced) → words ≡ w ∷ tail → w ≡ command_word c → Stands c r []
    → IfErr res (λ bad. (front : List (List ℕ)) → Stands c r front → 1 ≡ length front + 1 → IsPlace (command_word c ∷ (front ++ tail)) bad.place)
    → IfErr res (λ bad. IsPlace words bad.place)
first_refused c r words tail w (Ok made) e is s h = tt
first_refused c r words tail w (Err bad) e is s h = subst (λ x. IsPlace x bad.place) (sym (e ∙ ap (λ x. x ∷ tail) is)) (h [] s refl)

pub accepted_nowhere : (words : List (List ℕ)) (res : Result Command Misplaced) → IfOk res (λ made. Accepts words (asked_of made))
    → IfOk res (λ made. (place : ℕ) → IsPlace words place → ⊥)
accepted_nowhere words (Err bad) h = tt
accepted_nowhere words (Ok made) h = λ place p. p.none (asked_of made) h

pub refused_once : (words : List (List ℕ)) (res : Result Command Misplaced) → IfErr res (λ bad. IsPlace words bad.place)
    → IfErr res (λ bad. (place : ℕ) → IsPlace words place → place ≡ bad.place)
refused_once words (Ok made) h = tt
refused_once words (Err bad) h = λ place p. one_place words place bad.place p h

-- no words, and a first word that is no command's
pub no_words : (words : List (List ℕ)) → words ≡ [] → IsPlace words 0
no_words words e =
    subst (λ x. IsPlace x 0) (sym e) (place_end [] 0 refl nothing_begins (λ a h. (let s = h.spelled in cc)))

pub no_command : (words tail : List (List ℕ)) (w : List ℕ) → words ≡ w ∷ tail → ((c : Name) → w ≡ command_word c → ⊥) → IsPlace words 0
no_command words tail w e none =
    subst (λ x. IsPlace x 0) (sym e)
    (place_at (w ∷ tail) 0 (omega arith) nothing_begins
    (λ b. none (command_of b.1) (let s = b.2.spelled in cc)))
