-- Matching by the set of open positions.
use Rattle.std.specs.Prelude.{ℕ, ◌≡◌, ◌≤◌, ◌==◌, ◌&&◌, ◌||◌, Bool, true, false, List, length, drop, slice_index_or}
use Rattle.path_judges.specs.declared.pattern.Step.{Step}
use Rattle.path_judges.specs.declared.pattern.Step.TheVariants.{Point, One, Many}
use Rattle.path_judges.specs.Pattern.{matches}

-- the positions of a pattern that are open for a list of captures: those from which the steps match it
pub record IsOpen (steps : List Step) (captures : List ℕ) (open_at : List Bool) : Type 0 where
  pub slots : length open_at ≡ 33
  pub each : (k : ℕ) → k ≤ length steps → slice_index_or open_at k false ≡ matches (drop k steps) captures

-- the step takes any number of captures
abbrev pub is_many : Step → Bool
is_many (Point point) = false
is_many One = false
is_many Many = true

-- the step may be met by this capture
abbrev pub admits : Step → ℕ → Bool
admits (Point point) capture = capture == point
admits One capture = true
admits Many capture = true

-- whether a step's position is open for a capture and what follows, by: the next position for what
-- follows, the next for all of it, and its own for what follows
abbrev pub opens : Step → ℕ → Bool → Bool → Bool → Bool
opens (Point point) capture next_after next own_after = (capture == point) && next_after
opens One capture next_after next own_after = next_after
opens Many capture next_after next own_after = next || own_after
