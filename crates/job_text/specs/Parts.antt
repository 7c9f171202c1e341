-- The canonical values of a job's parts, as JSON: the members of each object in byte order, with all that
-- are optional.
use Rattle.std.specs.Prelude.{ℕ, ◌+◌, ◌^◌, ◌==◌, ℤ, List, [], ◌∷◌, ◌++◌, map, flat_map, nat_lt, if◌then◌else◌, slice_get, Option, Some, None, unwrap_or, codes}
use Rattle.std.specs.Fmt.{decimal}
use Rattle.std.specs.Int.{bit_at}
use Rattle.serde_json.specs.Data.{Data, unsigned, number, string, array, object, no_members, member}
use Rattle.serde_json.specs.Find.{of_integer}
use Rattle.serde_json.specs.View.{items_of}
use Rattle.field_table.specs.FieldText.{field_text}
use Rattle.field_table.specs.declared.field_ref.FieldRef.{FieldRef}
use Rattle.path_judges.specs.declared.pattern.Step.{Step}
use Rattle.path_judges.specs.declared.pattern.Step.TheVariants.{Point, One, Many}
use Rattle.job_table.specs.Question.{Question, Everything, Loops, Drops, Paths, Rewrites, Tests, Manner, Same, Less, Table, Ruling}

-- ---- values that several members have

-- a list of values, one for each of these
abbrev pub list_of : {A : Type 0} → (A → Data) → List A → Data
list_of value xs = array (items_of (map value xs))

-- values for a list and another of the same length
abbrev pub both_of : {A B : Type 0} → (A → B → Data) → List A → List B → List Data
both_of value [] ys = []
both_of value (x ∷ xs) [] = []
both_of value (x ∷ xs) (y ∷ ys) = value x y ∷ both_of value xs ys

-- the name that has this number
abbrev pub name_at : List (List ℕ) → ℕ → List ℕ
name_at names n = unwrap_or (slice_get names n) []

-- the name as a text
abbrev pub named : List (List ℕ) → ℕ → Data
named names n = string (name_at names n)

-- a number below 2^128: from 2^64 on its digits as a text
abbrev pub wide_value : ℕ → Data
wide_value n = if nat_lt n (2 ^ 64) then number (unsigned n) else string (decimal n)

-- ---- captures and variables

-- a capture of version 1
abbrev pub plain_capture : (name file : List ℕ) → Data
plain_capture name file = object (member (codes "file") (string file) (member (codes "name") (string name) no_members))

-- a capture with its offset and its skew
abbrev pub clocked_capture : (name file : List ℕ) → (offset : ℤ) → (skew : ℕ) → Data
clocked_capture name file offset skew = object (
    member (codes "file") (string file) (
    member (codes "name") (string name) (
    member (codes "offset") (number (of_integer offset)) (
    member (codes "skew") (number (unsigned skew)) no_members))))

-- the same, and its interface where it was given
abbrev pub later_capture : (name file : List ℕ) → (offset : ℤ) → (skew : ℕ) → Option ℕ → Data
later_capture name file offset skew None = clocked_capture name file offset skew
later_capture name file offset skew (Some interface) = object (
    member (codes "file") (string file) (
    member (codes "interface") (number (unsigned interface)) (
    member (codes "name") (string name) (
    member (codes "offset") (number (of_integer offset)) (
    member (codes "skew") (number (unsigned skew)) no_members)))))

-- a capture, by the version of the declaration
abbrev pub capture_value : (version : ℕ) → (name file : List ℕ) → (offset : ℤ) → (skew : ℕ) → Option ℕ → Data
capture_value version name file offset skew interface =
    if version == 1 then plain_capture name file else later_capture name file offset skew interface

-- a value for each capture, from lists of the same length
abbrev pub capture_values : (version : ℕ) → (names files : List (List ℕ)) → (offsets : List ℤ) → (skews : List ℕ) → (interfaces : List (Option ℕ))
    → List Data
capture_values version (name ∷ names) (file ∷ files) (offset ∷ offsets) (skew ∷ skews) (interface ∷ interfaces) =
    capture_value version name file offset skew interface ∷ capture_values version names files offsets skews interfaces
capture_values version _ _ _ _ _ = []

abbrev pub field_value : FieldRef → Data
field_value field = string (field_text field)

abbrev pub var_value : List ℕ → List FieldRef → Data
var_value name take = object (member (codes "name") (string name) (member (codes "take") (list_of field_value take) no_members))

-- ---- loop, drop, path, test

abbrev pub loop_value : List (List ℕ) → ℕ → Data
loop_value vars hop = object (member (codes "hop") (named vars hop) (member (codes "kind") (string (codes "loop")) no_members))

-- of names that are numbered from n on, those whose bit is set, rising
abbrev pub set_names : ℕ → ℕ → List (List ℕ) → List (List ℕ)
set_names set n [] = []
set_names set n (name ∷ names) = if bit_at set n == 1 then name ∷ set_names set (n + 1) names else set_names set (n + 1) names

abbrev pub drop_value : List (List ℕ) → ℕ → Data
drop_value captures exits =
    object (member (codes "exits") (list_of string (set_names exits 0 captures)) (member (codes "kind") (string (codes "drop")) no_members))

abbrev pub step_word : List (List ℕ) → Step → List ℕ
step_word captures (Point c) = name_at captures c
step_word captures One = codes "?"
step_word captures Many = codes "*"

-- a word for each step, and a blank before each but the first
abbrev pub pattern_text : List (List ℕ) → List Step → List ℕ
pattern_text captures [] = []
pattern_text captures (first ∷ more) = step_word captures first ++ flat_map (λ step. 32 ∷ step_word captures step) more

abbrev pub pattern_value : List (List ℕ) → List Step → Data
pattern_value captures steps = string (pattern_text captures steps)

abbrev pub path_value : List (List ℕ) → List (List Step) → Data
path_value captures allow =
    object (member (codes "allow") (list_of (pattern_value captures) allow) (member (codes "kind") (string (codes "path")) no_members))

abbrev pub test_value : List ℕ → Data
test_value text = object (member (codes "expr") (string text) (member (codes "kind") (string (codes "test")) no_members))

-- ---- rewrite

abbrev pub row_value : ℕ × ℕ → Data
row_value row = list_of wide_value (row.0 ∷ row.1 ∷ [])

-- with the name of the variable
abbrev pub same_value : List ℕ → Data
same_value var = object (member (codes "how") (string (codes "same")) (member (codes "var") (string var) no_members))

abbrev pub less_value : ℕ → List ℕ → Data
less_value by var =
    object (member (codes "by") (wide_value by) (member (codes "how") (string (codes "less")) (member (codes "var") (string var) no_members)))

abbrev pub table_value : List (ℕ × ℕ) → List ℕ → Data
table_value rows var =
    object (member (codes "how") (string (codes "table")) (member (codes "rows") (list_of row_value rows) (member (codes "var") (string var) no_members)))

abbrev pub rule_value : Manner → List ℕ → Data
rule_value Same var = same_value var
rule_value (Less by) var = less_value by var
rule_value (Table rows) var = table_value rows var

abbrev pub ruling_value : List (List ℕ) → Ruling → Data
ruling_value vars rule = rule_value rule.how (name_at vars rule.var)

abbrev pub rewrite_value : List (List ℕ) → List (List ℕ) → ℕ → ℕ → List Ruling → Data
rewrite_value vars captures from to rules =
    object (member (codes "from") (named captures from) (member (codes "kind") (string (codes "rewrite"))
    (member (codes "rules") (list_of (ruling_value vars) rules) (member (codes "to") (named captures to) no_members))))

-- ---- the query

abbrev pub question_value : List (List ℕ) → List (List ℕ) → Question → Data
question_value vars captures Everything = object (member (codes "kind") (string (codes "all")) no_members)
question_value vars captures (Loops hop) = loop_value vars hop
question_value vars captures (Drops exits) = drop_value captures exits
question_value vars captures (Paths allow) = path_value captures allow
question_value vars captures (Rewrites from to rules) = rewrite_value vars captures from to rules
question_value vars captures (Tests text e) = test_value text
