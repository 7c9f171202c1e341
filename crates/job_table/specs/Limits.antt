-- The limits of a declaration's parts.
use Rattle.std.specs.Prelude.{ℕ, ◌≡◌, ◌<◌, ◌≤◌, ◌^◌, List, length, All, Ok}
use Rattle.ds_base.specs.Times.{hour}
use Rattle.path_judges.specs.declared.pattern.Step.{Step}
use Rattle.path_judges.specs.declared.pattern.Step.TheVariants.{Point, One as AnyOne, Many}
use Rattle.query_lang.specs.Expression.{Expression, AllTerms, VariablesBelow}
use Rattle.query_lang.specs.Grammar.{InScope}
use Rattle.query_lang.specs.declared.names.Scope.{Scope}
use Rattle.query_lang.specs.declared.names.Scope.TheVariants.{Group}
use Rattle.job_values.specs.Parsed.{parsed}
use Rattle.job_table.specs.Question.{Question, Everything, Loops, Drops, Paths, Rewrites, Tests, Manner, Same, Less, Table, Ruling}

-- the newest version of a declaration; the oldest is 1
abbrev pub newest_version : ℕ
newest_version = 3

-- the longest window, skew and offset
abbrev pub longest : ℕ
longest = hour

-- the greatest number of an interface
abbrev pub last_interface : ℕ
last_interface = 65535

-- so many, from `least` to `most`
abbrev pub Counts : ℕ → ℕ → {T : Type 0} → List T → Type 0
Counts least most xs = (least ≤ length xs) × (length xs ≤ most)

-- the expression of a text that is short enough, in this scope with these names of variables and captures
pub record IsParsed (scope : Scope) (vars captures : List (List ℕ)) (text : List ℕ) (e : Expression) : Type 0 where
  pub short : length text ≤ 1024
  pub gives : parsed scope vars captures text ≡ Ok e
  pub terms : AllTerms (InScope scope (length vars) (length captures)) e
  pub variables : VariablesBelow (length vars) e

-- a step's capture, if it has one, is among so many
abbrev pub StepBelow : ℕ → Step → Type 0
StepBelow captures (Point capture) = capture < captures
StepBelow captures AnyOne = Unit {0}
StepBelow captures Many = Unit {0}

-- a pattern has 1 to 32 steps, whose captures are among so many
abbrev pub IsPattern : ℕ → List Step → Type 0
IsPattern captures steps = Counts 1 32 steps × All (StepBelow captures) steps

abbrev pub IsRow : ℕ × ℕ → Type 0
IsRow row = (row.0 < 2 ^ 128) × (row.1 < 2 ^ 128)

abbrev pub IsManner : Manner → Type 0
IsManner Same = Unit {0}
IsManner (Less by) = by < 2 ^ 128
IsManner (Table rows) = Counts 1 64 rows × All IsRow rows

abbrev pub IsRuling : ℕ → Ruling → Type 0
IsRuling vars rule = (rule.var < vars) × IsManner rule.how

-- The numbers of the question are among these variables and captures, its lists are in their limits, and its
-- expression is what its text says.
abbrev pub IsQuestion : List (List ℕ) → List (List ℕ) → Question → Type 0
IsQuestion vars captures Everything = Unit {0}
IsQuestion vars captures (Loops hop) = hop < length vars
IsQuestion vars captures (Drops exits) = (0 < exits) × (exits < 2 ^ length captures)
IsQuestion vars captures (Paths allow) = Counts 1 16 allow × All (IsPattern (length captures)) allow
IsQuestion vars captures (Rewrites from to rules) =
    (from < length captures) × (to < length captures) × Counts 1 16 rules × All (IsRuling (length vars)) rules
IsQuestion vars captures (Tests text e) = IsParsed Group vars captures text e
