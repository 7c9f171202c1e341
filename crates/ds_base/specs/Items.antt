-- Lists, as contracts see them.
use Rattle.std.specs.Prelude.{ℕ, List}

-- what a contract sees of a list: its items, and how many more it takes without asking for memory
pub record Items (T : Type 0) : Type 0 where
  pub items : List T
  pub spare : ℕ
