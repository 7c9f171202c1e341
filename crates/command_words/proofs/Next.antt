-- What the next word may be, behind the words that were read.
use Rattle.std.proofs.Common.{ℕ, List, [], ◌∷◌, ◌++◌, ◌≡◌, ◌<◌, Option, Some, None, length, get_or, refl, sym, ap, ◌∙◌, subst, append_assoc, arith}
use Rattle.std.specs.Prelude.{◌==◌, if◌then◌else◌}
use Rattle.std.proofs.lemmas.List.{append-nil}
use Rattle.command_words.specs.declared.kind.WordKind.TheVariants.{File}
use Rattle.command_words.specs.declared.table.Name.{Name}
use Rattle.command_words.specs.Kinds.{HasKind, IsRequired}
use Rattle.command_words.specs.CommandTable.{plain_kinds, options_of, option_word, option_kind}
use Rattle.command_words.specs.CommandLine.{Part, spell, plain_words, values_for, AreInForm, AtMostOne, IsLine}
use Rattle.command_words.specs.CommandLine.Part.{Plain, Apart, Joined}
use Rattle.command_words.specs.Reading.{StandsFor, Goes, one_or_none, NoOption}
use Rattle.command_words.proofs.Names.{no_word, no_word_alone, one_number, not_joined, one_joined}
use Rattle.command_words.proofs.Parts.{plain_words-append, values_for-append, behind}
use Rattle.command_words.proofs.KindLists.{have-length, have_at, at_most, none_given, own_same}

-- the ways in which a word goes on, where no option waits
pub data May (c : Name) (count : ℕ) (values : List (Option (List ℕ))) (w : List ℕ) : Type 0 where
  MayPlain : IsRequired w → count < length (plain_kinds c) → HasKind (get_or (plain_kinds c) count File) w → May c count values w
  MayApart : (k : ℕ) → k < length (options_of c) → w ≡ option_word c k → get_or values k None ≡ None → May c count values w
  MayJoined : (k : ℕ) (v : List ℕ) → k < length (options_of c) → w ≡ option_word c k ++ (61 ∷ v) → get_or values k None ≡ None
      → HasKind (option_kind c k) v → May c count values w

-- an option that is given behind these parts was not given in them, and its value is of its kind
first_value : (c : Name) (k : ℕ) (v : List ℕ) (ps qs : List Part) (vs : List (List ℕ))
    → AtMostOne (option_kind c k) (values_for k (ps ++ qs)) → values_for k qs ≡ (if k == k then v ∷ [] else []) ++ vs
    → (values_for k ps ≡ []) × HasKind (option_kind c k) v
first_value c k v ps qs vs h e =
    let own : values_for k qs ≡ v ∷ vs = e ∙ ap (λ x. x ++ vs) (own_same k v) in
    let all : values_for k (ps ++ qs) ≡ values_for k ps ++ (v ∷ vs) = values_for-append k ps qs ∙ ap (λ x. values_for k ps ++ x) own in
    at_most (option_kind c k) (values_for k ps) v vs (rw (sym all) h)

next_of : (c : Name) (count : ℕ) (values : List (Option (List ℕ))) (w : List ℕ) (rest : List (List ℕ)) (ps left : List Part)
    → length (plain_words ps) ≡ count → ((k : ℕ) → values_for k ps ≡ one_or_none (get_or values k None))
    → IsLine c (ps ++ left) → spell c left ≡ w ∷ rest → AreInForm c left → May c count values w
next_of c count values w rest ps [] counted read line spelled form = cc
next_of c count values w rest ps (Plain x ∷ left) counted read line spelled form =
    let same : x ≡ w = cc in
    let at = have_at (plain_kinds c) (plain_words ps) x (plain_words left) (rw (sym (plain_words-append ps (Plain x ∷ left))) line.plain) in
    MayPlain (subst IsRequired same form.0) (omega (arith, at.0)) (subst (λ y. HasKind (get_or (plain_kinds c) count File) y) same (subst (λ n. HasKind (get_or (plain_kinds c) n File) x) counted at.1))
next_of c count values w rest ps (Apart k v ∷ left) counted read line spelled form =
    let f = first_value c k v ps (Apart k v ∷ left) (values_for k left) (line.options k) refl in
    MayApart k form.0.0 (cc) (none_given (get_or values k None) (sym (read k) ∙ f.0))
next_of c count values w rest ps (Joined k v ∷ left) counted read line spelled form =
    let f = first_value c k v ps (Joined k v ∷ left) (values_for k left) (line.options k) refl in
    MayJoined k v form.0 (cc) (none_given (get_or values k None) (sym (read k) ∙ f.0)) f.1

-- the words that were read, where no option waits
pub words_read : (c : Name) (ps : List Part) (ws : List (List ℕ)) → ws ≡ spell c ps ++ [] → ws ≡ spell c ps
words_read c ps ws e = e ∙ append-nil (spell c ps)

next : (c : Name) (count : ℕ) (plain : List (List ℕ)) (values : List (Option (List ℕ))) (ws : List (List ℕ)) (w : List ℕ)
    → StandsFor c count plain values None ws → Goes c (ws ++ (w ∷ [])) → May c count values w
next c count plain values ws w h g =
    let rest = g.0 in
    let e : spell c g.1 ≡ spell c h.parts ++ (w ∷ rest) =
    sym g.3 ∙ append_assoc ws (w ∷ []) rest ∙ ap (λ x. x ++ (w ∷ rest)) (words_read c h.parts ws h.spelled) in
    let b = behind c h.parts g.1 (w ∷ rest) h.start.form g.2.form e in
    next_of c count values w rest h.parts b.parts h.counted h.values_read (subst (λ x. IsLine c x) b.joined g.2) b.spelled b.form

pub refuse_plain : (c : Name) (count : ℕ) (plain : List (List ℕ)) (values : List (Option (List ℕ))) (ws : List (List ℕ)) (w : List ℕ)
    → StandsFor c count plain values None ws → IsRequired w
    → (count < length (plain_kinds c) → HasKind (get_or (plain_kinds c) count File) w → ⊥) → Goes c (ws ++ (w ∷ [])) → ⊥
refuse_plain c count plain values ws w h required refused g =
    elim (next c count plain values ws w h g) [
      | MayPlain r less kind ↦ refused less kind
      | MayApart k less e free ↦ no_word_alone c k w less required e
      | MayJoined k v less e free kind ↦ no_word c k w (61 ∷ v) less required e
    ]

pub refuse_apart : (c : Name) (count : ℕ) (plain : List (List ℕ)) (values : List (Option (List ℕ))) (ws : List (List ℕ)) (w : List ℕ) (j : ℕ)
    → StandsFor c count plain values None ws → j < length (options_of c) → w ≡ option_word c j
    → (get_or values j None ≡ None → ⊥) → Goes c (ws ++ (w ∷ [])) → ⊥
refuse_apart c count plain values ws w j h within is refused g =
    elim (next c count plain values ws w h g) [
      | MayPlain r less kind ↦ no_word_alone c j w within r is
      | MayApart k less e free ↦ refused (subst (λ i. get_or values i None ≡ None) (one_number c k j less within (sym e ∙ is)) free)
      | MayJoined k v less e free kind ↦ not_joined c j k v within less (sym is ∙ e)
    ]

pub refuse_joined : (c : Name) (count : ℕ) (plain : List (List ℕ)) (values : List (Option (List ℕ))) (ws : List (List ℕ)) (w : List ℕ) (j : ℕ) (x : List ℕ)
    → StandsFor c count plain values None ws → j < length (options_of c) → w ≡ option_word c j ++ (61 ∷ x)
    → (get_or values j None ≡ None → HasKind (option_kind c j) x → ⊥) → Goes c (ws ++ (w ∷ [])) → ⊥
refuse_joined c count plain values ws w j x h within is refused g =
    elim (next c count plain values ws w h g) [
      | MayPlain r less kind ↦ no_word c j w (61 ∷ x) within r is
      | MayApart k less e free ↦ not_joined c k j x less within (sym e ∙ is)
      | MayJoined k v less e free kind ↦
          let one = one_joined c k j v x less within (sym e ∙ is) in
          refused (subst (λ i. get_or values i None ≡ None) one.0 free)
          (subst (λ y. HasKind (option_kind c j) y) one.1 (subst (λ i. HasKind (option_kind c i) v) one.0 kind))
    ]

pub refuse_other : (c : Name) (count : ℕ) (plain : List (List ℕ)) (values : List (Option (List ℕ))) (ws : List (List ℕ)) (w : List ℕ)
    → StandsFor c count plain values None ws → (IsRequired w → ⊥)
    → ((k : ℕ) → k < length (options_of c) → NoOption (option_word c k) w) → Goes c (ws ++ (w ∷ [])) → ⊥
refuse_other c count plain values ws w h no_word no_option g =
    elim (next c count plain values ws w h g) [
      | MayPlain r less kind ↦ no_word r
      | MayApart k less e free ↦ (no_option k less).0 e
      | MayJoined k v less e free kind ↦ (no_option k less).1 v e
    ]

-- the word behind an option that waits is its value
value_of : (c : Name) (k : ℕ) (w : List ℕ) (rest : List (List ℕ)) (ps left : List Part) → k < length (options_of c)
    → IsLine c (ps ++ left) → spell c left ≡ option_word c k ∷ w ∷ rest → AreInForm c left
    → IsRequired w × HasKind (option_kind c k) w
value_of c k w rest ps [] less line spelled form = cc
value_of c k w rest ps (Plain x ∷ left) less line spelled form = absurd (no_word_alone c k x less form.0 cc)
value_of c k w rest ps (Apart j v ∷ left) less line spelled form =
    let heads : option_word c j ≡ option_word c k = cc in
    let one = one_number c j k form.0.0 less heads in
    let same : v ≡ w = cc in
    let f = first_value c j v ps (Apart j v ∷ left) (values_for j left) (line.options j) refl in
    (subst IsRequired same form.0.1, subst (λ y. HasKind (option_kind c k) y) same (subst (λ i. HasKind (option_kind c i) v) one f.1))
value_of c k w rest ps (Joined j v ∷ left) less line spelled form = absurd (not_joined c k j v less form.0 cc)

-- the words that were read, where an option waits
pub waiting_words : (c : Name) (k : ℕ) (ps : List Part) (ws us : List (List ℕ)) → ws ≡ spell c ps ++ (option_word c k ∷ [])
    → ws ++ us ≡ spell c ps ++ (option_word c k ∷ us)
waiting_words c k ps ws us e = ap (λ x. x ++ us) e ∙ append_assoc (spell c ps) (option_word c k ∷ []) us

pub refuse_value : (c : Name) (count : ℕ) (plain : List (List ℕ)) (values : List (Option (List ℕ))) (k : ℕ) (ws : List (List ℕ)) (w : List ℕ)
    → StandsFor c count plain values (Some k) ws → (IsRequired w → HasKind (option_kind c k) w → ⊥) → Goes c (ws ++ (w ∷ [])) → ⊥
refuse_value c count plain values k ws w h refused g =
    let rest = g.0 in
    let e : spell c g.1 ≡ spell c h.parts ++ (option_word c k ∷ w ∷ rest) =
    sym g.3 ∙ append_assoc ws (w ∷ []) rest ∙ waiting_words c k h.parts ws (w ∷ rest) h.spelled in
    let b = behind c h.parts g.1 (option_word c k ∷ w ∷ rest) h.start.form g.2.form e in
    let v = value_of c k w rest h.parts b.parts h.free.0 (subst (λ x. IsLine c x) b.joined g.2) b.spelled b.form in
    refused v.0 v.1

-- where all words are read, the parts that spell them are those that were read
no_more : (c : Name) (ps left : List Part) → spell c left ≡ [] → ps ++ left ≡ ps
no_more c ps [] e = append-nil ps
no_more c ps (Plain w ∷ left) e = cc
no_more c ps (Apart k v ∷ left) e = cc
no_more c ps (Joined k v ∷ left) e = cc

never_waiting : (c : Name) (k : ℕ) (left : List Part) → k < length (options_of c) → AreInForm c left → spell c left ≡ option_word c k ∷ [] → ⊥
never_waiting c k [] less form e = cc
never_waiting c k (Plain w ∷ left) less form e = no_word_alone c k w less form.0 cc
never_waiting c k (Apart j v ∷ left) less form e = cc
never_waiting c k (Joined j v ∷ left) less form e = not_joined c k j v less form.0 cc

pub whole : (c : Name) (count : ℕ) (plain : List (List ℕ)) (values : List (Option (List ℕ))) (ws : List (List ℕ)) (qs : List Part)
    → (h : StandsFor c count plain values None ws) → IsLine c qs → ws ≡ spell c qs → (qs ≡ h.parts) × (count ≡ length (plain_kinds c))
whole c count plain values ws qs h line e =
    let s : spell c qs ≡ spell c h.parts ++ [] = sym e ∙ h.spelled in
    let b = behind c h.parts qs [] h.start.form line.form s in
    let same : qs ≡ h.parts = b.joined ∙ no_more c h.parts b.parts b.spelled in
    let long = have-length (plain_kinds c) (plain_words qs) line.plain in
    let n : length (plain_words qs) ≡ length (plain_words h.parts) = ap (λ x. length (plain_words x)) same in
    (same, omega (arith, long, n, h.counted))

pub whole_waiting : (c : Name) (count : ℕ) (plain : List (List ℕ)) (values : List (Option (List ℕ))) (k : ℕ) (ws : List (List ℕ)) (qs : List Part)
    → StandsFor c count plain values (Some k) ws → IsLine c qs → ws ≡ spell c qs → ⊥
whole_waiting c count plain values k ws qs h line e =
    let s : spell c qs ≡ spell c h.parts ++ (option_word c k ∷ []) = sym e ∙ h.spelled in
    let b = behind c h.parts qs (option_word c k ∷ []) h.start.form line.form s in
    never_waiting c k b.parts h.free.0 b.form b.spelled
