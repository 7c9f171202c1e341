-- The group that is being taken on one link.
use Rattle.std.specs.Prelude.{ℕ, List, []}
use Rattle.ds_base.specs.Copies.{Copies}
use Rattle.ds_base.specs.declared.stamp.Stamp.{Stamp}
use Rattle.run_law.specs.Sent.{Begun}

abbrev pub begun_taking : (first : Stamp) (members : ℕ) (key : List ℕ) → Begun
begun_taking first members key = record { first = first; key = key; members = []; left = members }

-- no group came yet
abbrev pub new_taking : Begun
new_taking = begun_taking (record { time = 0; capture = 0; number = 0 }) 0 []

-- the group with the members that came
abbrev pub copies_taken : Begun → Copies
copies_taken b = record { key = b.key; members = b.members }
