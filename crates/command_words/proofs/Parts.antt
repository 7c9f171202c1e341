-- The words of parts, and the one way in which words are read as parts.
use Rattle.std.proofs.Common.{ℕ, List, [], ◌∷◌, ◌++◌, ◌≡◌, refl, sym, ap, ◌∙◌, append_assoc}
use Rattle.std.specs.Prelude.{◌==◌, if◌then◌else◌}
use Rattle.command_words.specs.declared.table.Name.{Name}
use Rattle.command_words.specs.CommandTable.{option_word}
use Rattle.command_words.specs.CommandLine.{Part, spell, plain_words, values_for, AreInForm}
use Rattle.command_words.specs.CommandLine.Part.{Plain, Apart, Joined}
use Rattle.command_words.proofs.Names.{no_word, no_word_alone, one_number, not_joined, one_joined}

pub plain_words-append : (ps qs : List Part) → plain_words (ps ++ qs) ≡ plain_words ps ++ plain_words qs
plain_words-append [] qs = refl
plain_words-append (Plain w ∷ ps) qs = ap (λ ws. w ∷ ws) (plain_words-append ps qs)
plain_words-append (Apart k v ∷ ps) qs = plain_words-append ps qs
plain_words-append (Joined k v ∷ ps) qs = plain_words-append ps qs

pub values_for-append : (j : ℕ) (ps qs : List Part) → values_for j (ps ++ qs) ≡ values_for j ps ++ values_for j qs
values_for-append j [] qs = refl
values_for-append j (Plain w ∷ ps) qs = values_for-append j ps qs
values_for-append j (Apart k v ∷ ps) qs =
    ap (λ vs. (if k == j then v ∷ [] else []) ++ vs) (values_for-append j ps qs)
    ∙ sym (append_assoc (if k == j then v ∷ [] else []) (values_for j ps) (values_for j qs))
values_for-append j (Joined k v ∷ ps) qs =
    ap (λ vs. (if k == j then v ∷ [] else []) ++ vs) (values_for-append j ps qs)
    ∙ sym (append_assoc (if k == j then v ∷ [] else []) (values_for j ps) (values_for j qs))

pub spell-append : (c : Name) (ps qs : List Part) → spell c (ps ++ qs) ≡ spell c ps ++ spell c qs
spell-append c [] qs = refl
spell-append c (Plain w ∷ ps) qs = ap (λ ws. w ∷ ws) (spell-append c ps qs)
spell-append c (Apart k v ∷ ps) qs = ap (λ ws. option_word c k ∷ v ∷ ws) (spell-append c ps qs)
spell-append c (Joined k v ∷ ps) qs = ap (λ ws. (option_word c k ++ (61 ∷ v)) ∷ ws) (spell-append c ps qs)

pub form-append : (c : Name) (ps qs : List Part) → AreInForm c ps → AreInForm c qs → AreInForm c (ps ++ qs)
form-append c [] qs f g = g
form-append c (p ∷ ps) qs f g = (f.0, form-append c ps qs f.1 g)

-- the parts qs begin with the parts ps, and what is behind them spells the rest
pub record Behind (c : Name) (ps qs : List Part) (rest : List (List ℕ)) : Type 0 where
  pub parts : List Part
  pub joined : qs ≡ ps ++ parts
  pub spelled : spell c parts ≡ rest
  pub form : AreInForm c parts

one_more : (c : Name) (p : Part) (ps qs : List Part) (rest : List (List ℕ)) → Behind c ps qs rest → Behind c (p ∷ ps) (p ∷ qs) rest
one_more c p ps qs rest b = record { parts = b.parts; joined = ap (λ x. p ∷ x) b.joined; spelled = b.spelled; form = b.form }

-- words are read as parts in one way: parts whose words begin alike begin alike
pub behind : (c : Name) (ps qs : List Part) (rest : List (List ℕ)) → AreInForm c ps → AreInForm c qs
    → spell c qs ≡ spell c ps ++ rest → Behind c ps qs rest
behind c [] qs rest f g e = record { parts = qs; joined = refl; spelled = e; form = g }
behind c (Plain w ∷ ps) [] rest f g e = cc
behind c (Apart k v ∷ ps) [] rest f g e = cc
behind c (Joined k v ∷ ps) [] rest f g e = cc
behind c (Plain w ∷ ps) (Plain x ∷ qs) rest f g e =
    let same : x ≡ w = cc in
    let tails : spell c qs ≡ spell c ps ++ rest = cc in
    let b = one_more c (Plain w) ps qs rest (behind c ps qs rest f.1 g.1 tails) in
    record { parts = b.parts; joined = ap (λ y. Plain y ∷ qs) same ∙ b.joined; spelled = b.spelled; form = b.form }
behind c (Plain w ∷ ps) (Apart k v ∷ qs) rest f g e = absurd (no_word_alone c k w g.0.0 f.0 cc)
behind c (Plain w ∷ ps) (Joined k v ∷ qs) rest f g e = absurd (no_word c k w (61 ∷ v) g.0 f.0 cc)
behind c (Apart k v ∷ ps) (Plain x ∷ qs) rest f g e = absurd (no_word_alone c k x f.0.0 g.0 cc)
behind c (Joined k v ∷ ps) (Plain x ∷ qs) rest f g e = absurd (no_word c k x (61 ∷ v) f.0 g.0 cc)
behind c (Apart j v ∷ ps) (Apart k x ∷ qs) rest f g e =
    let heads : option_word c k ≡ option_word c j = cc in
    let one : k ≡ j = one_number c k j g.0.0 f.0.0 heads in
    let same : x ≡ v = cc in
    let tails : spell c qs ≡ spell c ps ++ rest = cc in
    let b = one_more c (Apart j v) ps qs rest (behind c ps qs rest f.1 g.1 tails) in
    record { parts = b.parts; joined = ap (λ y. Apart y x ∷ qs) one ∙ ap (λ y. Apart j y ∷ qs) same ∙ b.joined; spelled = b.spelled; form = b.form }
behind c (Apart j v ∷ ps) (Joined k x ∷ qs) rest f g e = absurd (not_joined c j k x f.0.0 g.0 cc)
behind c (Joined j v ∷ ps) (Apart k x ∷ qs) rest f g e = absurd (not_joined c k j v g.0.0 f.0 cc)
behind c (Joined j v ∷ ps) (Joined k x ∷ qs) rest f g e =
    let heads : option_word c k ++ (61 ∷ x) ≡ option_word c j ++ (61 ∷ v) = cc in
    let one = one_joined c k j x v g.0 f.0 heads in
    let tails : spell c qs ≡ spell c ps ++ rest = cc in
    let b = one_more c (Joined j v) ps qs rest (behind c ps qs rest f.1 g.1 tails) in
    record { parts = b.parts; joined = ap (λ y. Joined y x ∷ qs) one.0 ∙ ap (λ y. Joined j y ∷ qs) one.1 ∙ b.joined; spelled = b.spelled; form = b.form }
