-- One record of a capture file, and the packet that it is among those of all interfaces.
use Rattle.std.specs.Prelude.{ℕ, ◌-◌, List, length, drop}
use Rattle.pcapng_reader.specs.Packet.{Packet}

-- One record of a capture file (libpcap file format 2.4; pcapng specification sections 4.3 and 4.4): its number
-- among those that are read, counted from 0, its time in nanoseconds, its link type, how long the packet was, and
-- its captured bytes.
pub record Captured : Type 0 where
  pub number : ℕ
  pub time : ℕ
  pub link : ℕ
  pub orig : ℕ
  pub bytes : List ℕ

-- a record of a libpcap file, which has the one interface 0
abbrev pub as_packet : Captured → Packet
as_packet r = record { number = r.number; interface = 0; time = r.time; link = r.link; orig = r.orig; bytes = r.bytes }

-- a packet as the record of this number
abbrev pub as_record : (number : ℕ) → Packet → Captured
as_record number p = record { number = number; time = p.time; link = p.link; orig = p.orig; bytes = p.bytes }

-- the last bytes of those that were used up: the record or block that was read last
abbrev pub block_behind : (len : ℕ) → (spent : List ℕ) → List ℕ
block_behind len spent = drop (length spent - len) spent
