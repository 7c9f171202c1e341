-- The stamps by which the places of a list are sorted.
use Rattle.std.specs.Prelude.{ℕ, List, Option, Some, None, slice_get}
use Rattle.ds_base.specs.declared.stamp.Stamp.{Stamp}
use Rattle.ds_base.specs.declared.summary.Summary.{Summary}

-- the stamp of a summary, and the least one where there is none
abbrev pub stamp_of : Option Summary → Stamp
stamp_of (Some s) = s.at
stamp_of None = record { time = 0; capture = 0; number = 0 }

-- the stamp of the summary at this place of a list
abbrev pub stamp_there : List Summary → (place : ℕ) → Stamp
stamp_there l place = stamp_of (slice_get l place)
