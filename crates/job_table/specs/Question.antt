-- What is asked of each group, without where it lies in memory.
use Rattle.std.specs.Prelude.{ℕ, List, map}
use Rattle.ds_base.specs.Items.{Items}
use Rattle.path_judges.specs.declared.pattern.Step.{Step}
use Rattle.query_lang.specs.Expression.{Expression, expression_of}
use Rattle.rewrite_judge.specs.declared.rule.Rule.{Rule}
use Rattle.rewrite_judge.specs.declared.rule.How.{How}
use Rattle.rewrite_judge.specs.declared.rule.How.TheVariants as how
use Rattle.job_table.specs.declared.kinds.Query.{Query}
use Rattle.job_table.specs.declared.kinds.Query.TheVariants as query

-- how the value before a rewrite is to be to the value after
pub data Manner : Type 0 where
  Same : Manner
  Less : ℕ → Manner
  Table : List (ℕ × ℕ) → Manner

-- a rule on a variable
pub record Ruling : Type 0 where
  pub var : ℕ
  pub how : Manner

-- what is asked of each group
pub data Question : Type 0 where
  Everything : Question
  Loops : ℕ → Question
  Drops : ℕ → Question
  Paths : List (List Step) → Question
  Rewrites : ℕ → ℕ → List Ruling → Question
  Tests : List ℕ → Expression → Question

-- the items of each list of a list
abbrev pub items_of : {T : Type 0} → List (Items T) → List (List T)
items_of lists = map (λ list. list.items) lists

abbrev pub manner_of : How → Manner
manner_of how.Same = Same
manner_of (how.Less by) = Less by
manner_of (how.Table rows) = Table rows.items

abbrev pub ruling_of : Rule → Ruling
ruling_of rule = record { var = rule.var; how = manner_of rule.how }

-- what a query shows
abbrev pub question_of : Query → Question
question_of query.All = Everything
question_of (query.Loop hop) = Loops hop
question_of (query.Exits set) = Drops set
question_of (query.Path allow) = Paths allow.items
question_of (query.Rewrite from to rules) = Rewrites from to (map ruling_of rules.items)
question_of (query.Test text expr) = Tests text.items (expression_of expr)
