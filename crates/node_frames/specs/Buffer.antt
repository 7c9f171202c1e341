-- What a contract sees of a buffer of encoded frames.
use Rattle.std.specs.Prelude.{ℕ, List}

-- the bytes in it, and how many more it takes without asking for memory
pub record Buffer : Type 0 where
  pub bytes : List ℕ
  pub spare : ℕ
