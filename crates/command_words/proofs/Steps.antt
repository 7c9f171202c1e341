-- What is known with one word more.
use Rattle.std.proofs.Common.{ℕ, zero, suc, List, [], ◌∷◌, ◌++◌, ◌≡◌, ◌<◌, ◌≤◌, ◌+◌, ◌⊎◌, inl, inr, true, false, Option, Some, None, length, get_or, eqb, refl, sym, ap, ◌∙◌, subst, arith}
use Rattle.std.specs.Prelude.{◌==◌, if◌then◌else◌}
use Rattle.std.proofs.Math.ListN.{set}
use Rattle.std.proofs.lemmas.Bool.{cases_Bool, eqb-true, eqb-false}
use Rattle.std.proofs.lemmas.List.{append-nil, take_more_set, length-set, length-append, get_or-set_same, get_or-set_other}
use Rattle.command_words.specs.declared.kind.WordKind.TheVariants.{File}
use Rattle.command_words.specs.declared.kind.WordKind.{WordKind}
use Rattle.command_words.specs.declared.table.Name.{Name}
use Rattle.command_words.specs.declared.table.Name.TheVariants.{Count, Stack, Check, Central, Run, Sample, Help, Version}
use Rattle.command_words.specs.Kinds.{HasKind, IsRequired}
use Rattle.command_words.specs.CommandTable.{plain_kinds, options_of, option_word, option_kind}
use Rattle.command_words.specs.CommandLine.{Part, plain_words, values_for, AtMostOne, AreParts}
use Rattle.command_words.specs.CommandLine.Part.{Plain, Apart, Joined}
use Rattle.command_words.specs.Reading.{StandsFor, one_or_none}
use Rattle.command_words.proofs.Parts.{plain_words-append, values_for-append, spell-append, form-append}
use Rattle.command_words.proofs.KindLists.{have_more, own_same, own_other}
use Rattle.command_words.proofs.Next.{words_read, waiting_words}

-- a needed word gives no option a value, and an option is no needed word
pub same_values : (j : ℕ) (ps : List Part) (w : List ℕ) → values_for j (ps ++ (Plain w ∷ [])) ≡ values_for j ps
same_values j ps w = values_for-append j ps (Plain w ∷ []) ∙ append-nil (values_for j ps)

pub same_words_apart : (ps : List Part) (k : ℕ) (v : List ℕ) → plain_words (ps ++ (Apart k v ∷ [])) ≡ plain_words ps
same_words_apart ps k v = plain_words-append ps (Apart k v ∷ []) ∙ append-nil (plain_words ps)

pub same_words_joined : (ps : List Part) (k : ℕ) (v : List ℕ) → plain_words (ps ++ (Joined k v ∷ [])) ≡ plain_words ps
same_words_joined ps k v = plain_words-append ps (Joined k v ∷ []) ∙ append-nil (plain_words ps)

-- the values of each option, where one option gains one
abbrev own : ℕ → ℕ → List ℕ → List (List ℕ)
own k j v = if k == j then v ∷ [] else []

pub apart_values : (j k : ℕ) (v : List ℕ) (ps : List Part) → values_for j (ps ++ (Apart k v ∷ [])) ≡ values_for j ps ++ own k j v
apart_values j k v ps = values_for-append j ps (Apart k v ∷ []) ∙ ap (λ x. values_for j ps ++ x) (append-nil (own k j v))

pub joined_values : (j k : ℕ) (v : List ℕ) (ps : List Part) → values_for j (ps ++ (Joined k v ∷ [])) ≡ values_for j ps ++ own k j v
joined_values j k v ps = values_for-append j ps (Joined k v ∷ []) ∙ ap (λ x. values_for j ps ++ x) (append-nil (own k j v))

gained_here : (k j : ℕ) (v : List ℕ) (xs : List (List ℕ)) → eqb k j ≡ true → xs ≡ [] → xs ++ own k j v ≡ v ∷ []
gained_here k j v xs e none =
    ap (λ x. x ++ own k j v) none ∙ subst (λ i. own k i v ≡ v ∷ []) (eqb-true k j e) (own_same k v)

gained_not : (k j : ℕ) (v : List ℕ) (xs : List (List ℕ)) → eqb k j ≡ false → xs ++ own k j v ≡ xs
gained_not k j v xs e = ap (λ x. xs ++ x) (own_other k j v e) ∙ append-nil xs

still_one : (c : Name) (j k : ℕ) (v : List ℕ) (ps : List Part) → ((i : ℕ) → AtMostOne (option_kind c i) (values_for i ps))
    → values_for k ps ≡ [] → HasKind (option_kind c k) v
    → (eqb k j ≡ true) ⊎ (eqb k j ≡ false) → AtMostOne (option_kind c j) (values_for j ps ++ own k j v)
still_one c j k v ps all none has (inl e) =
    let same : k ≡ j = eqb-true k j e in
    rw (gained_here k j v (values_for j ps) e (subst (λ i. values_for i ps ≡ []) same none)) (subst (λ i. HasKind (option_kind c i) v) same has)
still_one c j k v ps all none has (inr e) = rw (gained_not k j v (values_for j ps) e) (all j)

still_read : (values : List (Option (List ℕ))) (j k : ℕ) (v : List ℕ) (ps : List Part) → ((i : ℕ) → values_for i ps ≡ one_or_none (get_or values i None))
    → values_for k ps ≡ [] → k < length values → (eqb k j ≡ true) ⊎ (eqb k j ≡ false)
    → values_for j ps ++ own k j v ≡ one_or_none (get_or (set values k (Some v)) j None)
still_read values j k v ps all none less (inl e) =
    let same : k ≡ j = eqb-true k j e in
    gained_here k j v (values_for j ps) e (subst (λ i. values_for i ps ≡ []) same none)
    ∙ ap one_or_none (sym (subst (λ i. get_or (set values k (Some v)) i None ≡ Some v) same (get_or-set_same values k (Some v) None less)))
still_read values j k v ps all none less (inr e) =
    gained_not k j v (values_for j ps) e ∙ all j
    ∙ ap one_or_none (sym (get_or-set_other values k j (Some v) None (λ s. eqb-false k j e (sym s))))

-- a needed word more
pub took_word : (c : Name) (count : ℕ) (plain : List (List ℕ)) (values : List (Option (List ℕ))) (ws : List (List ℕ)) (w : List ℕ)
    → StandsFor c count plain values None ws → IsRequired w → count < length (plain_kinds c) → HasKind (get_or (plain_kinds c) count File) w
    → StandsFor c (count + 1) (set plain count w) values None (ws ++ (w ∷ []))
took_word c count plain values ws w h required less kind =
    let words : plain_words (h.parts ++ (Plain w ∷ [])) ≡ plain_words h.parts ++ (w ∷ []) = plain_words-append h.parts (Plain w ∷ []) in
    record {
      parts = h.parts ++ (Plain w ∷ []);
      start = record {
        form = form-append c h.parts (Plain w ∷ []) h.start.form (required, tt);
        plain = rw words (have_more (plain_kinds c) count (plain_words h.parts) w h.start.plain less kind);
        options = λ j. rw (same_values j h.parts w) (h.start.options j);
      };
      spelled = ap (λ x. x ++ (w ∷ [])) (words_read c h.parts ws h.spelled) ∙ sym (append-nil _ ∙ spell-append c h.parts (Plain w ∷ []));
      counted = omega (arith, ap length words, length-append (plain_words h.parts) (w ∷ []), h.counted);
      plain_read = words ∙ ap (λ x. x ++ (w ∷ [])) h.plain_read ∙ sym (take_more_set plain count w (omega (arith, h.word_room, less)));
      values_read = λ j. same_values j h.parts w ∙ h.values_read j;
      word_room = omega (arith, h.word_room, length-set plain count w);
      value_room = h.value_room;
      free = tt;
    }

-- an option that waits for its value
pub waited : (c : Name) (count : ℕ) (plain : List (List ℕ)) (values : List (Option (List ℕ))) (ws : List (List ℕ)) (k : ℕ)
    → StandsFor c count plain values None ws → k < length (options_of c) → get_or values k None ≡ None
    → StandsFor c count plain values (Some k) (ws ++ (option_word c k ∷ []))
waited c count plain values ws k h less none =
    record {
      parts = h.parts;
      start = h.start;
      spelled = ap (λ x. x ++ (option_word c k ∷ [])) (words_read c h.parts ws h.spelled);
      counted = h.counted;
      plain_read = h.plain_read;
      values_read = h.values_read;
      word_room = h.word_room;
      value_room = h.value_room;
      free = (less, h.values_read k ∙ ap one_or_none none);
    }

-- one option more in its parts
pub with_apart : (c : Name) (kinds : List WordKind) (ps : List Part) (k : ℕ) (v : List ℕ) → AreParts c kinds ps → k < length (options_of c)
    → values_for k ps ≡ [] → IsRequired v → HasKind (option_kind c k) v → AreParts c kinds (ps ++ (Apart k v ∷ []))
with_apart c kinds ps k v h less none required has =
    record {
      form = form-append c ps (Apart k v ∷ []) h.form ((less, required), tt);
      plain = rw (same_words_apart ps k v) h.plain;
      options = λ j. rw (apart_values j k v ps) (still_one c j k v ps h.options none has (cases_Bool (eqb k j)));
    }

with_joined : (c : Name) (kinds : List WordKind) (ps : List Part) (k : ℕ) (v : List ℕ) → AreParts c kinds ps → k < length (options_of c)
    → values_for k ps ≡ [] → HasKind (option_kind c k) v → AreParts c kinds (ps ++ (Joined k v ∷ []))
with_joined c kinds ps k v h less none has =
    record {
      form = form-append c ps (Joined k v ∷ []) h.form (less, tt);
      plain = rw (same_words_joined ps k v) h.plain;
      options = λ j. rw (joined_values j k v ps) (still_one c j k v ps h.options none has (cases_Bool (eqb k j)));
    }

-- the value of the option that waits
pub took_value : (c : Name) (count : ℕ) (plain : List (List ℕ)) (values : List (Option (List ℕ))) (ws : List (List ℕ)) (k : ℕ) (v : List ℕ)
    → StandsFor c count plain values (Some k) ws → IsRequired v → HasKind (option_kind c k) v
    → StandsFor c count plain (set values k (Some v)) None (ws ++ (v ∷ []))
took_value c count plain values ws k v h required has =
    record {
      parts = h.parts ++ (Apart k v ∷ []);
      start = with_apart c _ h.parts k v h.start h.free.0 h.free.1 required has;
      spelled = waiting_words c k h.parts ws (v ∷ []) h.spelled ∙ sym (append-nil _ ∙ spell-append c h.parts (Apart k v ∷ []));
      counted = ap length (same_words_apart h.parts k v) ∙ h.counted;
      plain_read = same_words_apart h.parts k v ∙ h.plain_read;
      values_read = λ j. apart_values j k v h.parts ∙ still_read values j k v h.parts h.values_read h.free.1 (omega (arith, h.value_room, h.free.0)) (cases_Bool (eqb k j));
      word_room = h.word_room;
      value_room = omega (arith, h.value_room, length-set values k (Some v));
      free = tt;
    }

-- an option with its value
pub took_joined : (c : Name) (count : ℕ) (plain : List (List ℕ)) (values : List (Option (List ℕ))) (ws : List (List ℕ)) (k : ℕ) (v : List ℕ)
    → StandsFor c count plain values None ws → k < length (options_of c) → get_or values k None ≡ None → HasKind (option_kind c k) v
    → StandsFor c count plain (set values k (Some v)) None (ws ++ ((option_word c k ++ (61 ∷ v)) ∷ []))
took_joined c count plain values ws k v h less free has =
    let none : values_for k h.parts ≡ [] = h.values_read k ∙ ap one_or_none free in
    record {
      parts = h.parts ++ (Joined k v ∷ []);
      start = with_joined c _ h.parts k v h.start less none has;
      spelled = ap (λ x. x ++ ((option_word c k ++ (61 ∷ v)) ∷ [])) (words_read c h.parts ws h.spelled) ∙ sym (append-nil _ ∙ spell-append c h.parts (Joined k v ∷ []));
      counted = ap length (same_words_joined h.parts k v) ∙ h.counted;
      plain_read = same_words_joined h.parts k v ∙ h.plain_read;
      values_read = λ j. joined_values j k v h.parts ∙ still_read values j k v h.parts h.values_read none (omega (arith, h.value_room, less)) (cases_Bool (eqb k j));
      word_room = h.word_room;
      value_room = omega (arith, h.value_room, length-set values k (Some v));
      free = tt;
    }

-- the lists have room for the words and the options of each command
pub few_words : (c : Name) → length (plain_kinds c) ≤ 3
few_words Count = omega arith
few_words Stack = omega arith
few_words Check = omega arith
few_words Central = omega arith
few_words Run = omega arith
few_words Sample = omega arith
few_words Help = omega arith
few_words Version = omega arith

pub few_options : (c : Name) → length (options_of c) ≤ 4
few_options Count = omega arith
few_options Stack = omega arith
few_options Check = omega arith
few_options Central = omega arith
few_options Run = omega arith
few_options Sample = omega arith
few_options Help = omega arith
few_options Version = omega arith

none_of_all : (k : ℕ) → one_or_none (get_or (None ∷ None ∷ None ∷ None ∷ []) k None) ≡ []
none_of_all zero = refl
none_of_all (suc zero) = refl
none_of_all (suc (suc zero)) = refl
none_of_all (suc (suc (suc zero))) = refl
none_of_all (suc (suc (suc (suc k)))) = refl

-- nothing is read before the first word
pub started : (c : Name) → StandsFor c 0 ([] ∷ [] ∷ [] ∷ []) (None ∷ None ∷ None ∷ None ∷ []) None []
started c =
    record {
      parts = [];
      start = record { form = tt; plain = tt; options = λ k. tt };
      spelled = refl;
      counted = refl;
      plain_read = refl;
      values_read = λ k. sym (none_of_all k);
      word_room = few_words c;
      value_room = few_options c;
      free = tt;
    }
