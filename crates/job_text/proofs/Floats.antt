-- No number of the values of a job's parts is a float.
use Rattle.std.proofs.Common.{◌≡◌, ℕ, ◌^◌, Bool, true, false, cond, List, [], ◌∷◌, map, refl}
use Rattle.std.specs.Prelude.{◌||◌, nat_lt, ◌==◌, ℤ, pos, negsuc, Option, Some, None}
use Rattle.field_table.specs.declared.field_ref.FieldRef.{FieldRef}
use Rattle.serde_json.specs.Data.{Data, unsigned, number, string}
use Rattle.serde_json.specs.Find.{of_integer}
use Rattle.serde_json.specs.View.{items_of}
use Rattle.serde_json.specs.Written.{has_float, items_have_float}
use Rattle.std.specs.Fmt.{decimal}
use Rattle.job_text.specs.Parts.{both_of, wide_value, plain_capture, clocked_capture, later_capture, capture_values, field_value, var_value, set_names, pattern_value, row_value, rule_value, ruling_value, question_value}
use Rattle.job_table.specs.Question.{Question, Everything, Loops, Drops, Paths, Rewrites, Tests, Manner, Same, Less, Table}

pub neither : (a b : Bool) → a ≡ false → b ≡ false → (a || b) ≡ false
neither true b e f = e
neither false b e f = f

pub listed : {A : Type 0} (value : A → Data) → ((x : A) → has_float (value x) ≡ false) → (xs : List A) → items_have_float (items_of (map value xs)) ≡ false
listed value none [] = refl
listed value none (x ∷ xs) = neither _ _ (none x) (listed value none xs)

pub paired : {A B : Type 0} (value : A → B → Data) → ((x : A) (y : B) → has_float (value x y) ≡ false)
    → (xs : List A) (ys : List B) → items_have_float (items_of (both_of value xs ys)) ≡ false
paired value none [] ys = refl
paired value none (x ∷ xs) [] = refl
paired value none (x ∷ xs) (y ∷ ys) = neither _ _ (none x y) (paired value none xs ys)

either_way : (t : Bool) (n : ℕ) → has_float (cond t (number (unsigned n)) (string (decimal n))) ≡ false
either_way true n = refl
either_way false n = refl

wide : (n : ℕ) → has_float (wide_value n) ≡ false
wide n = either_way (nat_lt n (2 ^ 64)) n

row : (r : ℕ × ℕ) → has_float (row_value r) ≡ false
row r = neither _ _ (wide r.0) (neither _ _ (wide r.1) refl)

rule : (m : Manner) (var : List ℕ) → has_float (rule_value m var) ≡ false
rule Same var = refl
rule (Less by) var = neither _ _ (wide by) refl
rule (Table rows) var = neither _ _ (listed row_value row rows) refl

pub question : (vars captures : List (List ℕ)) (q : Question) → has_float (question_value vars captures q) ≡ false
question vars captures Everything = refl
question vars captures (Loops hop) = refl
question vars captures (Drops set) = neither _ _ (listed string (λ _. refl) (set_names set 0 captures)) refl
question vars captures (Paths allow) = neither _ _ (listed (pattern_value captures) (λ _. refl) allow) refl
question vars captures (Rewrites from to rules) =
    neither _ _ (listed (ruling_value vars) (λ r. rule r.how _) rules) refl
question vars captures (Tests text e) = refl

signed : (z : ℤ) → has_float (number (of_integer z)) ≡ false
signed (pos n) = refl
signed (negsuc n) = refl

by_version : (first : Bool) (name file : List ℕ) (offset : ℤ) (skew : ℕ) (own : Option ℕ)
    → has_float (cond first (plain_capture name file) (later_capture name file offset skew own)) ≡ false
by_version true name file offset skew own = refl
by_version false name file offset skew None = neither _ _ (signed offset) refl
by_version false name file offset skew (Some n) = neither _ _ (signed offset) refl

pub captures : (version : ℕ) (names files : List (List ℕ)) (offsets : List ℤ) (skews : List ℕ) (interfaces : List (Option ℕ))
    → items_have_float (items_of (capture_values version names files offsets skews interfaces)) ≡ false
captures version [] files offsets skews interfaces = refl
captures version (name ∷ names) [] offsets skews interfaces = refl
captures version (name ∷ names) (file ∷ files) [] skews interfaces = refl
captures version (name ∷ names) (file ∷ files) (offset ∷ offsets) [] interfaces = refl
captures version (name ∷ names) (file ∷ files) (offset ∷ offsets) (skew ∷ skews) [] = refl
captures version (name ∷ names) (file ∷ files) (offset ∷ offsets) (skew ∷ skews) (own ∷ interfaces) =
    neither _ _ (by_version (version == 1) name file offset skew own) (captures version names files offsets skews interfaces)

pub var : (name : List ℕ) (take : List FieldRef) → has_float (var_value name take) ≡ false
var name take = neither _ _ (listed field_value (λ _. refl) take) refl
