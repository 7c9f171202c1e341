-- What a whole capture file holds, of either format: the records of the interface that is wanted, the first
-- malformed place, and whether the file ends inside a record or a block.
use Rattle.std.specs.Prelude.{ℕ, suc, List, [], ◌∷◌, Bool, true, length, map, Option, Some, None, slice_index, nat_le, ◌==◌, ◌&&◌, if◌then◌else◌}
use Rattle.std.specs.List.{filter}
use Rattle.ds_base.specs.declared.capture.Bad.{Bad}
use Rattle.pcapng_reader.specs.Packet.{Packet}
use Rattle.pcapng_reader.specs.Good.{ng_packets, ng_bad, ng_cut}
use Rattle.pcap_reader.specs.Captured.{Captured, as_packet, as_record}
use Rattle.pcap_reader.specs.Libpcap.{libpcap_records, libpcap_bad, libpcap_cut}

-- the type of a section block, which reads the same in both orders (pcapng specification section 4.1)
abbrev pub is_section_type : (first second third fourth : ℕ) → Bool
is_section_type first second third fourth = (first == 0x0A) && ((second == 0x0D) && ((third == 0x0D) && (fourth == 0x0A)))

-- A pcapng file begins with a section block. Every other file is read as a libpcap file.
unfoldable pub is_pcapng : List ℕ → Bool
is_pcapng bytes =
    nat_le 4 (length bytes) && is_section_type (slice_index bytes 0) (slice_index bytes 1) (slice_index bytes 2) (slice_index bytes 3)

-- the packets of all interfaces
unfoldable pub file_packets : List ℕ → List Packet
file_packets bytes = if is_pcapng bytes then ng_packets bytes else map as_packet (libpcap_records bytes)

-- whether packets of an interface are wanted: all are where none is named
abbrev pub is_wanted : (wanted : Option ℕ) → (interface : ℕ) → Bool
is_wanted None interface = true
is_wanted (Some wanted) interface = interface == wanted

abbrev pub wanted_packets : (wanted : Option ℕ) → List Packet → List Packet
wanted_packets wanted packets = filter (λ p. is_wanted wanted p.interface) packets

-- the packets as records that are numbered one after the other
abbrev pub numbered : (number : ℕ) → List Packet → List Captured
numbered number [] = []
numbered number (p ∷ ps) = as_record number p ∷ numbered (suc number) ps

-- the records of the packets that are wanted
abbrev pub records_of : (wanted : Option ℕ) → List Packet → List Captured
records_of wanted packets = numbered 0 (wanted_packets wanted packets)

-- the first malformed place, whichever interface is wanted
unfoldable pub file_bad : List ℕ → Option Bad
file_bad bytes = if is_pcapng bytes then ng_bad bytes else libpcap_bad bytes

-- whether the file ends inside a record or a block, and is not malformed
unfoldable pub file_cut : List ℕ → Bool
file_cut bytes = if is_pcapng bytes then ng_cut bytes else libpcap_cut bytes

-- what a file holds
pub record Good : Type 0 where
  pub records : List Captured
  pub bad : Option Bad
  pub cut : Bool

-- What these bytes hold as a file of which the packets of this interface are wanted, or of all interfaces. All that
-- stands above this file speaks of `good` alone, and of none of the parts before it.
abbrev pub good : (wanted : Option ℕ) → List ℕ → Good
good wanted bytes = record { records = records_of wanted (file_packets bytes); bad = file_bad bytes; cut = file_cut bytes }
