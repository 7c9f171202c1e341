-- Which capture is taken next.
use Rattle.std.specs.Prelude.{ℕ, ◌≡◌, ◌<◌, Bool, true, false, List, Option, Some, None, length, slice_index_or}
use Rattle.key_select.specs.Tally.{newest_of}
use Rattle.net_law.specs.Parsers.{IsBehind}
use Rattle.parser_captures.specs.declared.capture.OneCapture.{OneCapture}

-- the capture at a place; d is what stands for one that is not there
abbrev pub capture_in : List OneCapture → ℕ → OneCapture → OneCapture
capture_in captures i d = slice_index_or captures i d

-- the capture at this place goes on, and of the first n that go on none has a newest time before its own
pub record IsLeast (captures : List OneCapture) (n i : ℕ) : Type 0 where
  pub there : i < n
  pub going : (d : OneCapture) → (capture_in captures i d).ended ≡ false
  pub least : (j : ℕ) (d : OneCapture) → j < n → (capture_in captures j d).ended ≡ false
      → IsBehind (newest_of (capture_in captures i d).tally) (newest_of (capture_in captures j d).tally)

-- of the first n captures: none goes on, or this one is least
abbrev pub IsBest : (captures : List OneCapture) (n : ℕ) → Option ℕ → Type 0
IsBest captures n None = (j : ℕ) (d : OneCapture) → j < n → (capture_in captures j d).ended ≡ true
IsBest captures n (Some i) = IsLeast captures n i
