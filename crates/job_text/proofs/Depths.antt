-- The values of a job's parts are a few levels deep.
use Rattle.std.proofs.Common.{ℕ, suc, ◌^◌, ◌≤◌, Bool, true, false, cond, List, [], ◌∷◌, map, arith}
use Rattle.std.specs.Prelude.{nat_lt, ◌==◌, ℤ, pos, negsuc, Option, Some, None}
use Rattle.std.specs.Fmt.{decimal}
use Rattle.std.proofs.Math.Nat.{max-le}
use Rattle.field_table.specs.declared.field_ref.FieldRef.{FieldRef}
use Rattle.serde_json.specs.Data.{Data, unsigned, number, string, depth, items_depth}
use Rattle.serde_json.specs.Find.{of_integer}
use Rattle.serde_json.specs.View.{items_of}
use Rattle.job_text.specs.Parts.{both_of, wide_value, plain_capture, clocked_capture, later_capture, capture_values, field_value, var_value, set_names, pattern_value, row_value, rule_value, ruling_value, question_value}
use Rattle.job_table.specs.Question.{Question, Everything, Loops, Drops, Paths, Rewrites, Tests, Manner, Same, Less, Table}

pub listed : {A : Type 0} (k : ℕ) (value : A → Data) → ((x : A) → depth (value x) ≤ k) → (xs : List A) → items_depth (items_of (map value xs)) ≤ k
listed k value low [] = omega arith
listed k value low (x ∷ xs) = max-le (low x) (listed k value low xs)

pub paired : {A B : Type 0} (k : ℕ) (value : A → B → Data) → ((x : A) (y : B) → depth (value x y) ≤ k)
    → (xs : List A) (ys : List B) → items_depth (items_of (both_of value xs ys)) ≤ k
paired k value low [] ys = omega arith
paired k value low (x ∷ xs) [] = omega arith
paired k value low (x ∷ xs) (y ∷ ys) = max-le (low x y) (paired k value low xs ys)

pub up : (a k : ℕ) → a ≤ k → suc a ≤ suc k
up a k h = omega (arith, h)

pub none : (k : ℕ) → 0 ≤ k
none k = omega arith

either_way : (t : Bool) (n k : ℕ) → depth (cond t (number (unsigned n)) (string (decimal n))) ≤ k
either_way true n k = none k
either_way false n k = none k

wide : (n k : ℕ) → depth (wide_value n) ≤ k
wide n k = either_way (nat_lt n (2 ^ 64)) n k

row : (r : ℕ × ℕ) → depth (row_value r) ≤ 1
row r = up _ 0 (max-le (wide r.0 0) (max-le (wide r.1 0) (none 0)))

rule : (m : Manner) (var : List ℕ) → depth (rule_value m var) ≤ 3
rule Same var = omega arith
rule (Less by) var = up _ 2 (max-le (wide by 2) (max-le (none 2) (max-le (none 2) (none 2))))
rule (Table rows) var = up _ 2 (max-le (none 2) (max-le (up _ 1 (listed 1 row_value row rows)) (max-le (none 2) (none 2))))

pub question : (vars captures : List (List ℕ)) (q : Question) → depth (question_value vars captures q) ≤ 5
question vars captures Everything = omega arith
question vars captures (Loops hop) = omega arith
question vars captures (Drops set) = up _ 4 (max-le (up _ 3 (listed 3 string (λ _. none 3) (set_names set 0 captures))) (max-le (none 4) (none 4)))
question vars captures (Paths allow) = up _ 4 (max-le (up _ 3 (listed 3 (pattern_value captures) (λ _. none 3) allow)) (max-le (none 4) (none 4)))
question vars captures (Rewrites from to rules) =
    up _ 4 (max-le (none 4) (max-le (none 4) (max-le (up _ 3 (listed 3 (ruling_value vars) (λ r. rule r.how _) rules)) (max-le (none 4) (none 4)))))
question vars captures (Tests text e) = omega arith

signed : (z : ℤ) (k : ℕ) → depth (number (of_integer z)) ≤ k
signed (pos n) k = none k
signed (negsuc n) k = none k

clocked : (name file : List ℕ) (offset : ℤ) (skew : ℕ) → depth (clocked_capture name file offset skew) ≤ 2
clocked name file offset skew = up _ 1 (max-le (none 1) (max-le (none 1) (max-le (signed offset 1) (max-le (none 1) (none 1)))))

later : (name file : List ℕ) (offset : ℤ) (skew : ℕ) (own : Option ℕ) → depth (later_capture name file offset skew own) ≤ 2
later name file offset skew None = clocked name file offset skew
later name file offset skew (Some n) =
    up _ 1 (max-le (none 1) (max-le (none 1) (max-le (none 1) (max-le (signed offset 1) (max-le (none 1) (none 1))))))

by_version : (first : Bool) (name file : List ℕ) (offset : ℤ) (skew : ℕ) (own : Option ℕ)
    → depth (cond first (plain_capture name file) (later_capture name file offset skew own)) ≤ 2
by_version true name file offset skew own = omega arith
by_version false name file offset skew own = later name file offset skew own

pub captures : (version : ℕ) (names files : List (List ℕ)) (offsets : List ℤ) (skews : List ℕ) (interfaces : List (Option ℕ))
    → items_depth (items_of (capture_values version names files offsets skews interfaces)) ≤ 2
captures version [] files offsets skews interfaces = omega arith
captures version (name ∷ names) [] offsets skews interfaces = omega arith
captures version (name ∷ names) (file ∷ files) [] skews interfaces = omega arith
captures version (name ∷ names) (file ∷ files) (offset ∷ offsets) [] interfaces = omega arith
captures version (name ∷ names) (file ∷ files) (offset ∷ offsets) (skew ∷ skews) [] = omega arith
captures version (name ∷ names) (file ∷ files) (offset ∷ offsets) (skew ∷ skews) (own ∷ interfaces) =
    max-le (by_version (version == 1) name file offset skew own) (captures version names files offsets skews interfaces)

pub var : (name : List ℕ) (take : List FieldRef) → depth (var_value name take) ≤ 2
var name take = up _ 1 (max-le (none 1) (max-le (up _ 0 (listed 0 field_value (λ _. none 0) take)) (none 1)))
