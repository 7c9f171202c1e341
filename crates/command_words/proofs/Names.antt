-- The words of the options: each begins with `-`, has no `=`, and is no other's.
use Rattle.std.proofs.Common.{ℕ, zero, suc, List, [], ◌∷◌, ◌++◌, ◌≡◌, ◌<◌, Bool, true, false, Some, length, map, position, refl, sym, ap, ◌∙◌, subst, arith}
use Rattle.std.specs.Prelude.{◌==◌, if◌then◌else◌}
use Rattle.std.specs.Str.{bytes_eq}
use Rattle.std.proofs.lemmas.List.{append_cancel_left}
use Rattle.command_words.specs.declared.kind.WordKind.{WordKind}
use Rattle.command_words.specs.declared.table.Name.{Name}
use Rattle.command_words.specs.declared.table.Name.TheVariants.{Count, Stack, Check, Central, Run, Sample, Help, Version}
use Rattle.command_words.specs.Kinds.{IsRequired}
use Rattle.command_words.specs.CommandTable.{command_word, options_of, option_word, size_options}

-- whether a word has `=`, and what stands before its first one
abbrev has_equals : List ℕ → Bool
has_equals [] = false
has_equals (x ∷ xs) = if x == 61 then true else has_equals xs

abbrev front : List ℕ → List ℕ
front [] = []
front (x ∷ xs) = if x == 61 then [] else x ∷ front xs

-- the word of the option of this number, where these are the options
record IsNameOf (options : List (List ℕ × WordKind)) (word : List ℕ) (k : ℕ) : Type 0 where
  rest : List ℕ
  dashed : word ≡ 45 ∷ rest
  alone : has_equals word ≡ false
  joined : (v : List ℕ) → has_equals (word ++ (61 ∷ v)) ≡ true
  cut : (v : List ℕ) → front (word ++ (61 ∷ v)) ≡ word
  found : position (bytes_eq word) (map (λ o. o.0) options) ≡ Some k

abbrev IsName : Name → ℕ → Type 0
IsName c k = IsNameOf (options_of c) (option_word c k) k

-- of the sizes of a pipeline; every command that has them has the same
is_size : (k : ℕ) → k < length size_options → IsName Run k
is_size zero h = record { rest = _; dashed = refl; alone = refl; joined = λ v. refl; cut = λ v. refl; found = refl }
is_size (suc zero) h = record { rest = _; dashed = refl; alone = refl; joined = λ v. refl; cut = λ v. refl; found = refl }
is_size (suc (suc zero)) h = record { rest = _; dashed = refl; alone = refl; joined = λ v. refl; cut = λ v. refl; found = refl }
is_size (suc (suc (suc zero))) h = record { rest = _; dashed = refl; alone = refl; joined = λ v. refl; cut = λ v. refl; found = refl }
is_size (suc (suc (suc (suc k)))) h = absurd (omega arith)

is_name : (c : Name) (k : ℕ) → k < length (options_of c) → IsName c k
is_name Count k h = absurd (omega arith)
is_name Check k h = absurd (omega arith)
is_name Central k h = absurd (omega arith)
is_name Run k h = is_size k h
is_name Sample k h = is_size k h
is_name Help k h = absurd (omega arith)
is_name Version k h = absurd (omega arith)
is_name Stack zero h = record { rest = _; dashed = refl; alone = refl; joined = λ v. refl; cut = λ v. refl; found = refl }
is_name Stack (suc zero) h = record { rest = _; dashed = refl; alone = refl; joined = λ v. refl; cut = λ v. refl; found = refl }
is_name Stack (suc (suc k)) h = absurd (omega arith)

-- a word that is needed is no option
pub no_word : (c : Name) (k : ℕ) (w tail : List ℕ) → k < length (options_of c) → IsRequired w → w ≡ option_word c k ++ tail → ⊥
no_word c k w tail h r e =
    let n = is_name c k h in
    let s : w ≡ 45 ∷ (n.rest ++ tail) = e ∙ ap (λ x. x ++ tail) n.dashed in
    subst IsRequired s r refl

pub no_word_alone : (c : Name) (k : ℕ) (w : List ℕ) → k < length (options_of c) → IsRequired w → w ≡ option_word c k → ⊥
no_word_alone c k w h r e =
    let n = is_name c k h in
    let s : w ≡ 45 ∷ n.rest = e ∙ n.dashed in
    subst IsRequired s r refl

-- one option has one number
pub one_number : (c : Name) (j k : ℕ) → j < length (options_of c) → k < length (options_of c) → option_word c j ≡ option_word c k → j ≡ k
one_number c j k g h e =
    let m = is_name c j g in
    let n = is_name c k h in
    let s : Some j ≡ Some k = sym m.found ∙ ap (λ w. position (bytes_eq w) (map (λ o. o.0) (options_of c))) e ∙ n.found in
    cc

-- an option alone is none with its value
pub not_joined : (c : Name) (j k : ℕ) (v : List ℕ) → j < length (options_of c) → k < length (options_of c) → option_word c j ≡ option_word c k ++ (61 ∷ v) → ⊥
not_joined c j k v g h e =
    let m = is_name c j g in
    let n = is_name c k h in
    let s : false ≡ true = sym m.alone ∙ ap has_equals e ∙ n.joined v in
    cc

-- an option with its value in one word, read in one way
pub one_joined : (c : Name) (j k : ℕ) (v w : List ℕ) → j < length (options_of c) → k < length (options_of c)
    → option_word c j ++ (61 ∷ v) ≡ option_word c k ++ (61 ∷ w) → (j ≡ k) × (v ≡ w)
one_joined c j k v w g h e =
    let m = is_name c j g in
    let n = is_name c k h in
    let same : option_word c j ≡ option_word c k = sym (m.cut v) ∙ ap front e ∙ n.cut w in
    let one : j ≡ k = one_number c j k g h same in
    let tails : 61 ∷ v ≡ 61 ∷ w = append_cancel_left (option_word c k) (61 ∷ v) (61 ∷ w) (ap (λ x. x ++ (61 ∷ v)) (sym same) ∙ e) in
    (one, cc)

-- one command has one word
abbrev number_of : Name → ℕ
number_of Count = 0
number_of Stack = 1
number_of Check = 2
number_of Central = 3
number_of Run = 4
number_of Sample = 5
number_of Help = 6
number_of Version = 7

words_of_commands : List (List ℕ)
words_of_commands = command_word Count ∷ command_word Stack ∷ command_word Check ∷ command_word Central ∷ command_word Run ∷ command_word Sample ∷ command_word Help ∷ command_word Version ∷ []

found_command : (c : Name) → position (bytes_eq (command_word c)) words_of_commands ≡ Some (number_of c)
unfolding words_of_commands
found_command Count = refl
found_command Stack = refl
found_command Check = refl
found_command Central = refl
found_command Run = refl
found_command Sample = refl
found_command Help = refl
found_command Version = refl

same_number : (c d : Name) → number_of c ≡ number_of d → c ≡ d
same_number Count Count e = refl
same_number Stack Stack e = refl
same_number Check Check e = refl
same_number Central Central e = refl
same_number Run Run e = refl
same_number Sample Sample e = refl
same_number Help Help e = refl
same_number Version Version e = refl
same_number c d e = absurd (omega (arith, e))

pub one_command : (c d : Name) → command_word c ≡ command_word d → c ≡ d
one_command c d e =
    let s : Some (number_of c) ≡ Some (number_of d) = sym (found_command c) ∙ ap (λ w. position (bytes_eq w) words_of_commands) e ∙ found_command d in
    same_number c d cc
