-- Patterns, as they are printed, are read as the same.
use Rattle.std.proofs.Common.{◌≡◌, ℕ, ◌≤◌, Bool, true, false, not, List, [], ◌∷◌, ◌++◌, length, map, refl, ap, ◌∙◌, subst, arith, append_assoc, append-nil, Some, All}
use Rattle.std.specs.Prelude.{◌&&◌, ◌||◌, ◌==◌, Ok, nat_le, flat_map, codes, bytes_eq, slice_index}
use Rattle.std.specs.List.{list_all}
use Rattle.std.proofs.lemmas.Bool.{eqb-true, leb-true}
use Rattle.std.proofs.lemmas.List.{length-map}
use Rattle.std.proofs.lemmas.List.Elements.{All-head, All-tail}
use Rattle.std.proofs.lemmas.Slice.Eq.{bytes_eq-Decides}
use Rattle.query_tokens.specs.Words.{is_word_byte, begins_word}
use Rattle.path_judges.specs.declared.pattern.Step.{Step}
use Rattle.path_judges.specs.declared.pattern.Step.TheVariants.{Point, One, Many}
use Rattle.serde_json.specs.View.{items_of}
use Rattle.job_values.specs.Values.{each}
use Rattle.job_text.specs.Parts.{name_at, step_word, pattern_text, pattern_value}
use Rattle.job_table.specs.Limits.{StepBelow, IsPattern}
use Rattle.job_table.specs.QueryTable.{steps, pattern}
use Rattle.job_table.specs.Words.{is_identifier, is_blank, unless_empty, words_behind, words, step_of}
use Rattle.job_text.proofs.NewNames.{AllNew, test_at, number_again}
use Rattle.job_text.proofs.Said.{counted}

-- ---- words

and_parts : (a b : Bool) → (a && b) ≡ true → (a ≡ true) × (b ≡ true)
and_parts true b h = (refl, h)
and_parts false b h = cc

no_blank : (b : ℕ) → is_word_byte b ≡ true → is_blank b ≡ false
no_blank b e = by_space (b == 32) (b == 9) refl refl
  where
    by_space : (s t : Bool) → (b == 32) ≡ s → (b == 9) ≡ t → (s || t) ≡ false
    by_space true t space tab = let h = subst (λ c. is_word_byte c ≡ true) (eqb-true _ _ space) e in cc
    by_space false true space tab = let h = subst (λ c. is_word_byte c ≡ true) (eqb-true _ _ tab) e in cc
    by_space false false space tab = refl

-- a word: some bytes, and none of them a blank
abbrev IsPlain : List ℕ → Type 0
IsPlain word = (1 ≤ length word) × (list_all (λ b. not (is_blank b)) word ≡ true)

no_blanks : (bytes : List ℕ) → list_all is_word_byte bytes ≡ true → list_all (λ b. not (is_blank b)) bytes ≡ true
no_blanks [] e = refl
no_blanks (b ∷ bytes) e = let parts = and_parts (is_word_byte b) (list_all is_word_byte bytes) e in rw (no_blank b parts.0) (no_blanks bytes parts.1)

word_bytes : (name : List ℕ) → is_identifier name ≡ true → (1 ≤ length name) × (list_all is_word_byte name ≡ true)
word_bytes name e =
    let one = and_parts (nat_le 1 (length name) && nat_le (length name) 32 && begins_word (slice_index name 0)) (list_all is_word_byte name) e in
    let two = and_parts (nat_le 1 (length name) && nat_le (length name) 32) (begins_word (slice_index name 0)) one.0 in
    let three = and_parts (nat_le 1 (length name)) (nat_le (length name) 32) two.0 in
    (leb-true 1 (length name) three.0, one.1)

step_plain : (captures : List (List ℕ)) (s : Step) → AllNew is_identifier [] captures → StepBelow (length captures) s → IsPlain (step_word captures s)
step_plain captures (Point c) all below =
    let name = word_bytes (name_at captures c) (test_at is_identifier [] captures c all below) in (name.0, no_blanks (name_at captures c) name.1)
step_plain captures One all below = (omega arith, refl)
step_plain captures Many all below = (omega arith, refl)

unless : (word : List ℕ) (ws : List (List ℕ)) → 1 ≤ length word → unless_empty word ws ≡ word ∷ ws
unless [] ws some = absurd (omega (arith, some))
unless (b ∷ word) ws some = refl

no_true : (t : Bool) → not t ≡ true → t ≡ false
no_true true e = cc
no_true false e = refl

last_word : (before word : List ℕ) → list_all (λ b. not (is_blank b)) word ≡ true → words_behind before word ≡ unless_empty (before ++ word) []
last_word before [] plain = rw (append-nil before) refl
last_word before (b ∷ word) plain =
    let parts = and_parts (not (is_blank b)) (list_all (λ b. not (is_blank b)) word) plain in
    rw (no_true (is_blank b) parts.0) (last_word (before ++ b ∷ []) word parts.1 ∙ ap (λ w. unless_empty w []) (append_assoc before (b ∷ []) word))

next_word : (before word rest : List ℕ) → list_all (λ b. not (is_blank b)) word ≡ true
    → words_behind before (word ++ 32 ∷ rest) ≡ unless_empty (before ++ word) (words_behind [] rest)
next_word before [] rest plain = rw (append-nil before) refl
next_word before (b ∷ word) rest plain =
    let parts = and_parts (not (is_blank b)) (list_all (λ b. not (is_blank b)) word) plain in
    rw (no_true (is_blank b) parts.0) (next_word (before ++ b ∷ []) word rest parts.1 ∙ ap (λ w. unless_empty w (words_behind [] rest)) (append_assoc before (b ∷ []) word))

abbrev further : List (List ℕ) → List Step → List ℕ
further captures more = flat_map (λ step. 32 ∷ step_word captures step) more

abbrev AllBelow : ℕ → List Step → Type 0
AllBelow n [] = Unit {0}
AllBelow n (s ∷ more) = StepBelow n s × AllBelow n more

below : (n : ℕ) (path : List Step) → All (StepBelow n) path → AllBelow n path
below n [] all = tt
below n (s ∷ path) all = (All-head (StepBelow n) s path all, below n path (All-tail (StepBelow n) s path all))

words_again : (captures : List (List ℕ)) (s : Step) (more : List Step) → AllNew is_identifier [] captures → StepBelow (length captures) s → AllBelow (length captures) more
    → words (step_word captures s ++ further captures more) ≡ step_word captures s ∷ map (step_word captures) more
words_again captures s [] all one others =
    let plain = step_plain captures s all one in
    ap words (append-nil (step_word captures s)) ∙ last_word [] (step_word captures s) plain.1 ∙ unless (step_word captures s) [] plain.0
words_again captures s (t ∷ more) all one others =
    let plain = step_plain captures s all one in
    next_word [] (step_word captures s) (step_word captures t ++ further captures more) plain.1
    ∙ unless (step_word captures s) _ plain.0
    ∙ ap (λ ws. step_word captures s ∷ ws) (words_again captures t more all others.0 others.1)

-- ---- steps

no_sign : (name sign : List ℕ) → list_all is_word_byte name ≡ true → list_all is_word_byte sign ≡ false → bytes_eq name sign ≡ false
no_sign name sign word none = by_eq (bytes_eq name sign) refl
  where
    by_eq : (t : Bool) → bytes_eq name sign ≡ t → t ≡ false
    by_eq true e = let h = subst (λ w. list_all is_word_byte w ≡ true) ((bytes_eq-Decides name sign).0 e) word in cc
    by_eq false e = refl

step_again : (captures : List (List ℕ)) (s : Step) → AllNew is_identifier [] captures → StepBelow (length captures) s → step_of captures (step_word captures s) ≡ Some s
step_again captures (Point c) all less =
    let name = word_bytes (name_at captures c) (test_at is_identifier [] captures c all less) in
    rw (no_sign (name_at captures c) (codes "?") name.1 refl, no_sign (name_at captures c) (codes "*") name.1 refl, number_again is_identifier captures c all less) refl
step_again captures One all less = refl
step_again captures Many all less = refl

steps_again : (i : ℕ) (captures : List (List ℕ)) (earlier more : List Step) → AllNew is_identifier [] captures → AllBelow (length captures) more
    → steps i captures earlier (map (step_word captures) more) ≡ Ok (earlier ++ more)
steps_again i captures earlier [] all others = rw (append-nil earlier) refl
steps_again i captures earlier (s ∷ more) all others =
    rw (step_again captures s all others.0) (steps_again i captures (earlier ++ s ∷ []) more all others.1 ∙ rw (append_assoc earlier (s ∷ []) more) refl)

-- ---- patterns

path_words : (captures : List (List ℕ)) (path : List Step) → AllNew is_identifier [] captures → IsPattern (length captures) path
    → words (pattern_text captures path) ≡ map (step_word captures) path
path_words captures [] all lawful = absurd (omega (arith, lawful.0.0))
path_words captures (s ∷ path) all lawful =
    let steps = below (length captures) (s ∷ path) lawful.1 in words_again captures s path all steps.0 steps.1

path_again : (captures : List (List ℕ)) (earlier : List (List Step)) (path : List Step) → AllNew is_identifier [] captures → IsPattern (length captures) path
    → pattern captures earlier (pattern_value captures path) ≡ Ok (earlier ++ path ∷ [])
path_again captures earlier path all lawful =
    rw (
      path_words captures path all lawful,
      length-map path (step_word captures),
      counted 1 32 (length path) lawful.0.0 lawful.0.1,
      steps_again (length earlier) captures [] path all (below (length captures) path lawful.1),
    ) refl

abbrev pub AllPatterns : ℕ → List (List Step) → Type 0
AllPatterns n [] = Unit {0}
AllPatterns n (path ∷ more) = IsPattern n path × AllPatterns n more

pub paths_again : (captures : List (List ℕ)) (earlier more : List (List Step)) → AllNew is_identifier [] captures → AllPatterns (length captures) more
    → each (pattern captures) earlier (items_of (map (pattern_value captures) more)) ≡ Ok (earlier ++ more)
paths_again captures earlier [] all lawful = rw (append-nil earlier) refl
paths_again captures earlier (path ∷ more) all lawful =
    rw (path_again captures earlier path all lawful.0) (paths_again captures (earlier ++ path ∷ []) more all lawful.1 ∙ rw (append_assoc earlier (path ∷ []) more) refl)
