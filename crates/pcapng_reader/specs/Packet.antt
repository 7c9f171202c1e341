-- What contracts see of a packet.
use Rattle.std.specs.Prelude.{ℕ, List}

-- One packet of a pcapng file: its number among the packet blocks of the file, counted from 0, its interface
-- among those of its section, its time in nanoseconds, the link type of the interface, how long the packet
-- was, and its captured bytes.
pub record Packet : Type 0 where
  pub number : ℕ
  pub interface : ℕ
  pub time : ℕ
  pub link : ℕ
  pub orig : ℕ
  pub bytes : List ℕ
