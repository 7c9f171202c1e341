-- What becomes of the marks of captures.
use Rattle.std.specs.Prelude.{ℕ, List, ◌≡◌, ◌≤◌, Option, Some, None, max, take}
use Rattle.watermarks.specs.Least.{least_mark}

-- a capture's mark, raised to another where that is greater
abbrev pub raised_to : ℕ → Option ℕ → Option ℕ
raised_to mark None = None
raised_to mark (Some m) = Some (max m mark)

-- the first marks are those of the captures, and their least is kept
pub record IsKept (captures : ℕ) (marks : List (Option ℕ)) (least : Option ℕ) : Type 0 where
  pub few : captures ≤ 64
  pub value : least ≡ least_mark (take captures marks)
