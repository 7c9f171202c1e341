-- What a capture file of a sample holds, when it is read.
use Rattle.std.specs.Prelude.{ℕ, suc, List, [], ◌∷◌, length}
use Rattle.pcap_reader.specs.Captured.{Captured}
use Rattle.trace_gen.specs.declared.sighting.Sighting.{Sighting}
use Rattle.trace_gen.specs.Packets.{packet_of}

-- a sighting as the record of this number
abbrev pub record_seen : (number : ℕ) → Sighting → Captured
record_seen number s = record { number = number; time = s.time; link = 1; orig = length (packet_of s); bytes = packet_of s }

-- sightings as records that are numbered one after another
abbrev pub records_seen : (number : ℕ) → List Sighting → List Captured
records_seen number [] = []
records_seen number (s ∷ ss) = record_seen number s ∷ records_seen (suc number) ss
