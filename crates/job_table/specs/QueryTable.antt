-- The rows of the table that belong to the query, in its order.
use Rattle.std.specs.Prelude.{ℕ, ◌^◌, List, [], ◌∷◌, ◌++◌, length, if◌then◌else◌, Option, Some, None, Ok, Err, bytes_eq, codes, bit_or}
use Rattle.std.specs.List.{fold}
use Rattle.serde_json.specs.Data.{Data, Items, no_items, item}
use Rattle.path_judges.specs.declared.pattern.Step.{Step}
use Rattle.query_lang.specs.declared.names.Scope.TheVariants.{Group}
use Rattle.job_values.specs.declared.member.Member.TheVariants.{Query, QueryKind, QueryHop, QueryExits, QueryAllow, QueryFrom, QueryTo, QueryRules, QueryRulesVar, QueryRulesHow, QueryRulesBy, QueryRulesRows, QueryExpr}
use Rattle.job_values.specs.declared.fault.JobWhat.TheVariants.{Unknown, WrongKind}
use Rattle.job_values.specs.Said.{Said, ◌>>=◌, fault_at, or_fault, within}
use Rattle.job_values.specs.Values.{text, list, object, needed, no_stray, each}
use Rattle.job_values.specs.Parsed.{expression}
use Rattle.job_values.specs.Wide.{wide}
use Rattle.job_table.specs.declared.kinds.QuestionKind.{QuestionKind}
use Rattle.job_table.specs.declared.kinds.QuestionKind.TheVariants as asked
use Rattle.job_table.specs.declared.kinds.Way.{Way}
use Rattle.job_table.specs.declared.kinds.Way.TheVariants as way
use Rattle.job_table.specs.Question.{Ruling, Manner, Same, Less, Table, Question, Everything, Loops, Drops, Paths, Rewrites, Tests}
use Rattle.job_table.specs.Words.{words, step_of}
use Rattle.job_table.specs.Table.{listed, known, another, short_text}

-- ---- kinds of query, and the members of each

abbrev pub kind_named : List ℕ → Option QuestionKind
kind_named name =
    if bytes_eq name (codes "all") then Some asked.All else
    if bytes_eq name (codes "loop") then Some asked.Loop else
    if bytes_eq name (codes "drop") then Some asked.Drop else
    if bytes_eq name (codes "path") then Some asked.Path else
    if bytes_eq name (codes "rewrite") then Some asked.Rewrite else
    if bytes_eq name (codes "test") then Some asked.Test else None

abbrev pub members_of : QuestionKind → List (List ℕ)
members_of asked.All = codes "kind" ∷ []
members_of asked.Loop = codes "kind" ∷ codes "hop" ∷ []
members_of asked.Drop = codes "kind" ∷ codes "exits" ∷ []
members_of asked.Path = codes "kind" ∷ codes "allow" ∷ []
members_of asked.Rewrite = codes "kind" ∷ codes "from" ∷ codes "to" ∷ codes "rules" ∷ []
members_of asked.Test = codes "kind" ∷ codes "expr" ∷ []

abbrev pub kind : Data → Said QuestionKind
kind d = needed QueryKind 0 (codes "kind") d >>= text QueryKind 0 >>= λ name. or_fault QueryKind 0 Unknown (kind_named name)

-- ---- loop, drop

abbrev pub hop : List (List ℕ) → Data → Said ℕ
hop variables d = needed QueryHop 0 (codes "hop") d >>= known QueryHop 0 variables

-- bit c is set for each number c
abbrev pub set_of : List ℕ → ℕ
set_of numbers = fold (λ set c. bit_or set (2 ^ c)) 0 numbers

abbrev pub exits : List (List ℕ) → Data → Said ℕ
exits points d = do
  d ← needed QueryExits 0 (codes "exits") d
  ds ← listed QueryExits 0 1 64 d
  numbers ← each (another QueryExits points) [] ds
  Ok (set_of numbers)

-- ---- path

-- the steps of words, on top of those before them, in pattern number i
abbrev pub steps : ℕ → List (List ℕ) → List Step → List (List ℕ) → Said (List Step)
steps i points earlier [] = Ok earlier
steps i points earlier (word ∷ more) =
    or_fault QueryAllow i Unknown (step_of points word) >>= λ one. steps i points (earlier ++ one ∷ []) more

abbrev pub pattern : List (List ℕ) → List (List Step) → Data → Said (List (List Step))
pattern points earlier d = do
  given ← text QueryAllow (length earlier) d
  given ← within QueryAllow (length earlier) 1 32 (length (words given)) (words given)
  path ← steps (length earlier) points [] given
  Ok (earlier ++ path ∷ [])

abbrev pub allow : List (List ℕ) → Data → Said (List (List Step))
allow points d = needed QueryAllow 0 (codes "allow") d >>= listed QueryAllow 0 1 16 >>= each (pattern points) []

-- ---- rewrite

abbrev pub from : List (List ℕ) → Data → Said ℕ
from points d = needed QueryFrom 0 (codes "from") d >>= known QueryFrom 0 points

abbrev pub to : List (List ℕ) → Data → Said ℕ
to points d = needed QueryTo 0 (codes "to") d >>= known QueryTo 0 points

abbrev pub way_named : List ℕ → Option Way
way_named name =
    if bytes_eq name (codes "same") then Some way.Same else
    if bytes_eq name (codes "less") then Some way.Less else
    if bytes_eq name (codes "table") then Some way.Table else None

abbrev pub members_by : Way → List (List ℕ)
members_by way.Same = codes "var" ∷ codes "how" ∷ []
members_by way.Less = codes "var" ∷ codes "how" ∷ codes "by" ∷ []
members_by way.Table = codes "var" ∷ codes "how" ∷ codes "rows" ∷ []

abbrev pub rule_var : ℕ → List (List ℕ) → Data → Said ℕ
rule_var i variables d = needed QueryRulesVar i (codes "var") d >>= known QueryRulesVar i variables

abbrev pub rule_how : ℕ → Data → Said Way
rule_how i d =
    needed QueryRulesHow i (codes "how") d >>= text QueryRulesHow i >>= λ name. or_fault QueryRulesHow i Unknown (way_named name)

abbrev pub rule_by : ℕ → Data → Said ℕ
rule_by i d = needed QueryRulesBy i (codes "by") d >>= wide QueryRulesBy i

abbrev pub pair : ℕ → Data → Data → Said (ℕ × ℕ)
pair i left right = do
  a ← wide QueryRulesRows i left
  b ← wide QueryRulesRows i right
  Ok (a, b)

-- a list of two wide numbers
abbrev pub both : ℕ → Items → Said (ℕ × ℕ)
both i (item left (item right no_items)) = pair i left right
both i _ = Err (fault_at QueryRulesRows i WrongKind)

abbrev pub row : ℕ → List (ℕ × ℕ) → Data → Said (List (ℕ × ℕ))
row i earlier d = do
  ds ← list QueryRulesRows i d
  pair ← both i ds
  Ok (earlier ++ pair ∷ [])

abbrev pub rule_rows : ℕ → Data → Said (List (ℕ × ℕ))
rule_rows i d = needed QueryRulesRows i (codes "rows") d >>= listed QueryRulesRows i 1 64 >>= each (row i) []

abbrev pub manner : ℕ → Way → Data → Said Manner
manner i way.Same d = Ok Same
manner i way.Less d = rule_by i d >>= λ by. Ok (Less by)
manner i way.Table d = rule_rows i d >>= λ rows. Ok (Table rows)

-- a rule, on top of those before it: its way comes before its strays
abbrev pub rule : List (List ℕ) → List Ruling → Data → Said (List Ruling)
rule variables earlier d = do
  ms ← object QueryRules (length earlier) d
  how ← rule_how (length earlier) d
  none ← no_stray QueryRules (length earlier) (members_by how) ms
  var ← rule_var (length earlier) variables d
  manner ← manner (length earlier) how d
  Ok (earlier ++ record { var = var; how = manner } ∷ [])

abbrev pub rules : List (List ℕ) → Data → Said (List Ruling)
rules variables d = needed QueryRules 0 (codes "rules") d >>= listed QueryRules 0 1 16 >>= each (rule variables) []

abbrev pub rewrite : List (List ℕ) → List (List ℕ) → Data → Said Question
rewrite variables points d = do
  a ← from points d
  b ← to points d
  rs ← rules variables d
  Ok (Rewrites a b rs)

-- ---- test

abbrev pub expr : List (List ℕ) → List (List ℕ) → Data → Said Question
expr variables points d = do
  d ← needed QueryExpr 0 (codes "expr") d
  given ← short_text QueryExpr d
  e ← expression QueryExpr Group variables points given
  Ok (Tests given e)

-- ---- the query: its kind comes before its strays

abbrev pub question : List (List ℕ) → List (List ℕ) → QuestionKind → Data → Said Question
question variables points asked.All d = Ok Everything
question variables points asked.Loop d = hop variables d >>= λ v. Ok (Loops v)
question variables points asked.Drop d = exits points d >>= λ set. Ok (Drops set)
question variables points asked.Path d = allow points d >>= λ patterns. Ok (Paths patterns)
question variables points asked.Rewrite d = rewrite variables points d
question variables points asked.Test d = expr variables points d

abbrev pub query : List (List ℕ) → List (List ℕ) → Data → Said Question
query variables points d = do
  d ← needed Query 0 (codes "query") d
  ms ← object Query 0 d
  asked ← kind d
  none ← no_stray Query 0 (members_of asked) ms
  question variables points asked d
