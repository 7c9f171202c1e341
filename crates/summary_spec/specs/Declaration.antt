-- What a job declares, without where it lies in memory.
use Rattle.std.specs.Prelude.{ℕ, ℤ, Bool, List, Option}
use Rattle.ds_base.specs.Items.{Items}
use Rattle.field_table.specs.declared.field_ref.FieldRef.{FieldRef}
use Rattle.query_lang.specs.Expression.{Expression, expression_of}
use Rattle.query_lang.specs.declared.expression.Expr.{Expr}
use Rattle.query_lang.specs.declared.names.Names.{Names}
use Rattle.job_table.specs.declared.kinds.Query.{Query}
pub use Rattle.job_table.specs.Question.{Manner, Same, Less, Table, Ruling, Question, Everything, Loops, Drops, Paths, Rewrites, Tests, items_of, ruling_of, question_of}

-- what a job declares: names and texts are their bytes, variables and captures their numbers
pub record Declared : Type 0 where
  pub version : ℕ
  pub port : ℕ
  pub vars : List (List ℕ)
  pub captures : List (List ℕ)
  pub files : List (List ℕ)
  pub offsets : List ℤ
  pub skews : List ℕ
  pub interfaces : List (Option ℕ)
  pub takes : List (List FieldRef)
  pub filter_text : List ℕ
  pub filter : Expression
  pub key : List ℕ
  pub window : ℕ
  pub skew : ℕ
  pub profile : Bool
  pub query : Question

-- the parts of a job as they lie in memory
pub record Parts : Type 0 where
  pub version : ℕ
  pub port : ℕ
  pub names : Names
  pub files : Items (Items ℕ)
  pub offsets : Items ℤ
  pub skews : Items ℕ
  pub interfaces : Items (Option ℕ)
  pub takes : Items (Items FieldRef)
  pub filter_text : Items ℕ
  pub filter : Expr
  pub key : Items ℕ
  pub window : ℕ
  pub skew : ℕ
  pub profile : Bool
  pub query : Query

-- what they declare
abbrev pub declared : Parts → Declared
declared parts = record {
  version = parts.version;
  port = parts.port;
  vars = items_of parts.names.vars.items;
  captures = items_of parts.names.captures.items;
  files = items_of parts.files.items;
  offsets = parts.offsets.items;
  skews = parts.skews.items;
  interfaces = parts.interfaces.items;
  takes = items_of parts.takes.items;
  filter_text = parts.filter_text.items;
  filter = expression_of parts.filter;
  key = parts.key.items;
  window = parts.window;
  skew = parts.skew;
  profile = parts.profile;
  query = question_of parts.query;
}
