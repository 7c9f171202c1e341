-- Where and when the packets of a sample are seen: each goes from one capture point to the next, of which there are
-- eight, and its TTL falls by one at each.
use Rattle.std.specs.Prelude.{ℕ, zero, suc, ◌+◌, ◌*◌, ◌-◌, ◌%◌, List, [], ◌++◌, map}
use Rattle.std.specs.List.{range_with_len}
use Rattle.trace_gen.specs.declared.sighting.Sighting.{Sighting}
use Rattle.trace_gen.specs.Draws.{state_after, draw}

-- In these, `state` is the one at which the draws of a packet begin: draw 0 is where it is seen first, draw 1 how
-- often it is seen, and two more a sighting say where and when it is seen next.

-- how often the packet is seen: 2 to 4 times
abbrev pub sighting_count : (state : ℕ) → ℕ
sighting_count state = 2 + draw 1 3 state

-- at which capture point sighting k is, counted from 0
unfoldable pub point_at : (state k : ℕ) → ℕ
point_at state zero = draw 0 8 state
point_at state (suc k) = (point_at state k + 1 + draw (2 + 2 * k) 3 state) % 8

-- and when, in nanoseconds: packet `id` comes id + 1 milliseconds after the start
unfoldable pub time_at : (id state k : ℕ) → ℕ
time_at id state zero = 1000000 * (id + 1)
time_at id state (suc k) = time_at id state k + 1000 + draw (3 + 2 * k) 9000 state

abbrev pub sighting_at : (id state k : ℕ) → Sighting
sighting_at id state k = record { capture = point_at state k; time = time_at id state k; id = id; ttl = 64 - k }

-- all sightings of a packet
abbrev pub walk : (id state : ℕ) → List Sighting
walk id state = map (sighting_at id state) (range_with_len 0 (sighting_count state))

-- the state at which the draws of the packet behind it begin
abbrev pub state_behind : (state : ℕ) → ℕ
state_behind state = state_after (2 + 2 * sighting_count state) state

-- the state at which the draws of packet `id` begin, in the sample of a number
unfoldable pub state_of : (number id : ℕ) → ℕ
state_of number zero = number
state_of number (suc id) = state_behind (state_of number id)

-- the sightings of the first so many packets of the sample of a number
unfoldable pub sightings : (number packets : ℕ) → List Sighting
sightings number zero = []
sightings number (suc id) = sightings number id ++ walk id (state_of number id)
