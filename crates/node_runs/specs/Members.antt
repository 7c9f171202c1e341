-- What the judge asks of a member of a group.
use Rattle.std.specs.Prelude.{ℕ, ◌≡◌, ◌<◌, length}
use Rattle.ds_base.specs.declared.summary.Summary.{Summary}

-- it is of a capture below 64, and has so many values
abbrev pub IsMemberOfJob : (vars : ℕ) → Summary → Type 0
IsMemberOfJob vars member = (member.at.capture < 64) × (length member.vals ≡ vars)
