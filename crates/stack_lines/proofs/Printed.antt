use Rattle.std.proofs.Common.{ℕ, List, [], ◌∷◌, ◌++◌, ◌≡◌, refl, sym, ap, ◌∙◌, append_assoc}
use Rattle.std.proofs.lemmas.List.{append-nil}
use Rattle.std.specs.List.{flat_map}
use Rattle.std.proofs.lemmas.Grind.{flat_map-append}
use Rattle.ds_base.specs.Gain.{Gains, GainsPrefix}

-- what waits is longer by a piece
pub gains_waiting : (start written text rest more longer : List ℕ) → Gains start written text rest → longer ≡ rest ++ more
    → Gains start written (text ++ more) longer
gains_waiting start written text rest more longer g is = record {
  gained = g.gained;
  written = g.written;
  owed = ap (λ xs. xs ++ more) g.owed ∙ append_assoc g.gained rest more ∙ ap (λ xs. g.gained ++ xs) (sym is);
}

-- all that waited was written
pub gains_all : (start written text rest after : List ℕ) → Gains start written text rest → after ≡ written ++ rest → after ≡ start ++ text
gains_all start written text rest after g is =
    is ∙ ap (λ xs. xs ++ rest) g.written ∙ append_assoc start g.gained rest ∙ ap (λ xs. start ++ xs) (sym g.owed)

-- a front of what waited was written
pub gains_front_of_rest : (start written text rest after : List ℕ) → Gains start written text rest → GainsPrefix written after rest
    → GainsPrefix start after text
gains_front_of_rest start written text rest after g p = (
  p.0,
  record {
    gained = g.gained ++ p.1.gained;
    written = p.1.written ∙ ap (λ xs. xs ++ p.1.gained) g.written ∙ append_assoc start g.gained p.1.gained;
    owed = g.owed ∙ ap (λ xs. g.gained ++ xs) p.1.owed ∙ sym (append_assoc g.gained p.1.gained p.0);
  },
)

-- a prefix of a text is one of a longer text
pub gains_longer : (start written text more : List ℕ) → GainsPrefix start written text → GainsPrefix start written (text ++ more)
gains_longer start written text more p = (p.0 ++ more, gains_waiting start written text p.0 more (p.0 ++ more) p.1 refl)

-- nothing waits where all was written
pub gains_whole : (start written text : List ℕ) → written ≡ start ++ text → Gains start written text []
gains_whole start written text is = record { gained = text; written = is; owed = sym (append-nil text) }

-- the texts of some items and of one more
pub flat_map-more : {A : Type 0} (f : A → List ℕ) (xs : List A) (x : A) → flat_map f (xs ++ x ∷ []) ≡ flat_map f xs ++ f x
flat_map-more f xs x = flat_map-append f xs (x ∷ []) ∙ ap (λ ys. flat_map f xs ++ ys) (append-nil (f x))
