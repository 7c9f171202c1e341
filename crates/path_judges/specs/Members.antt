-- What a judge sees of a member.
use Rattle.std.specs.Prelude.{ℕ, List, map, slice_index}
use Rattle.ds_base.specs.declared.summary.Summary.{Summary}

-- the capture that saw this copy
abbrev pub capture_of : Summary → ℕ
capture_of member = member.at.capture

-- the value of a variable in this copy
abbrev pub value_of : ℕ → Summary → ℕ
value_of var member = slice_index member.vals var

-- the walk of a packet: the captures of its copies in order, repeats kept
abbrev pub walk_of : List Summary → List ℕ
walk_of members = map capture_of members
