-- What contracts see of a buffer.
use Rattle.std.specs.Prelude.{ℕ, List}

-- What a buffer holds: bytes that were used up and are still there, and the bytes after them.
pub record Kept : Type 0 where
  pub spent : List ℕ
  pub rest : List ℕ
