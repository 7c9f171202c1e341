-- The pairs of neighbouring members.
use Rattle.std.specs.Prelude.{ℕ, ◌==◌, ◌&&◌, Bool, List, drop, filter}
use Rattle.std.specs.List.{zip}
use Rattle.ds_base.specs.declared.summary.Summary.{Summary}

-- each member beside the next
abbrev pub neighbours : List Summary → List (Summary × Summary)
neighbours members = zip members (drop 1 members)

-- the first is of the one capture and the second of the other
abbrev pub crosses : ℕ → ℕ → Summary × Summary → Bool
crosses from to pair = (pair.0.at.capture == from) && (pair.1.at.capture == to)

-- the neighbours that go from one capture to the other, in order; their places number them from 0
abbrev pub pairs : ℕ → ℕ → List Summary → List (Summary × Summary)
pairs from to members = filter (crosses from to) (neighbours members)
