-- What a frame that waits needs.
use Rattle.std.specs.Prelude.{ℕ, ◌+◌, ◌*◌, Bool, true, false, if◌then◌else◌, List, [], ◌∷◌}
use Rattle.shuffle_poll.specs.declared.needs.Need.{Need}
use Rattle.shuffle_poll.specs.declared.needs.Need.TheVariants.{Nothing, Credit, Room}

abbrev pub is_credit : Need → Bool
is_credit Nothing = false
is_credit Credit = true
is_credit Room = false

abbrev pub is_room : Need → Bool
is_room Nothing = false
is_room Credit = false
is_room Room = true

-- the bits of a number, the lowest first
abbrev pub number_of_bits : List Bool → ℕ
number_of_bits [] = 0
number_of_bits (bit ∷ bits) = (if bit then 1 else 0) + 2 * number_of_bits bits
