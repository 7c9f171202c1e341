-- The capture files of a sample (libpcap file format 2.4).
use Rattle.std.specs.Prelude.{ℕ, ◌/◌, ◌%◌, ◌==◌, List, [], ◌++◌, length, if◌then◌else◌, map, codes}
use Rattle.std.specs.Fmt.{decimal}
use Rattle.std.specs.List.{filter, flat_map, range_with_len}
use Rattle.ds_base.specs.Outside.{NamedBytes}
use Rattle.trace_gen.specs.declared.sighting.Sighting.{Sighting}
use Rattle.trace_gen.specs.Numbers.{little}
use Rattle.trace_gen.specs.Packets.{packet_of}
use Rattle.trace_gen.specs.Sightings.{sightings}

-- the header of a file: its magic number, which says nanoseconds, version 2.4, zone, precision, the most bytes of a
-- packet, and Ethernet
unfoldable pub file_header : List ℕ
file_header =
    little 4 0xA1B23C4D ++ little 2 2 ++ little 2 4 ++ little 4 0 ++ little 4 0 ++ little 4 262144 ++ little 4 1

-- a record: seconds, nanoseconds, captured length, original length, and the packet
unfoldable pub record_of : Sighting → List ℕ
record_of s =
    little 4 (s.time / 1000000000) ++ little 4 (s.time % 1000000000)
    ++ little 4 (length (packet_of s)) ++ little 4 (length (packet_of s)) ++ packet_of s

-- the record of a sighting in the file of a capture point, which has those of its own alone
abbrev pub record_at : (point : ℕ) → Sighting → List ℕ
record_at point s = if s.capture == point then record_of s else []

-- what capture point `point` saw
abbrev pub seen_at : (point : ℕ) → List Sighting → List Sighting
seen_at point seen = filter (λ s. s.capture == point) seen

-- its file
abbrev pub capture_file : (point : ℕ) → List Sighting → List ℕ
capture_file point seen = file_header ++ flat_map record_of (seen_at point seen)

-- its name: s0 to s7
abbrev pub point_name : (point : ℕ) → List ℕ
point_name point = codes "s" ++ decimal point

-- how many packets a sample has, and how many capture points
unfoldable pub packet_count : ℕ
packet_count = 20000

abbrev pub points : List ℕ
points = range_with_len 0 8

-- all that is seen in the sample of a number
abbrev pub all_seen : (number : ℕ) → List Sighting
all_seen number = sightings number packet_count

-- a capture point's file, by its name
abbrev pub named_file : (seen : List Sighting) (point : ℕ) → NamedBytes
named_file seen point = record { name = point_name point; bytes = capture_file point seen }

-- the files of the sample of a number
abbrev pub sample_files : (number : ℕ) → List NamedBytes
sample_files number = map (named_file (all_seen number)) points
