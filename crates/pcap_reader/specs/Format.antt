-- The file header of a capture file (libpcap file format 2.4): magic, version, link type.
use Rattle.std.specs.Prelude.{ℕ, List, Bool, length, Option, Some, None, Result, Ok, Err, nat_lt, ◌==◌, ◌&&◌, ◌||◌, if◌then◌else◌}
use Rattle.ds_base.specs.declared.capture.Bad.{Bad}
use Rattle.ds_base.specs.declared.capture.PcapFault.TheVariants.{Magic, ShortHeader, Version, LinkType}
use Rattle.capture_bytes.specs.declared.endian.Endian.{Endian}
use Rattle.capture_bytes.specs.declared.endian.Endian.TheVariants.{Little, Big}
use Rattle.capture_bytes.specs.Number.{number}
pub use Rattle.pcapng_reader.specs.State.{bad_at}
pub use Rattle.pcapng_reader.specs.Reader.{is_short_header}
use Rattle.pcap_reader.specs.declared.format.Precision.{Precision}
use Rattle.pcap_reader.specs.declared.format.Precision.TheVariants.{Micros, Nanos}
use Rattle.pcap_reader.specs.declared.format.Format.{Format}

abbrev pub word : Endian → List ℕ → ℕ → ℕ
word endian bytes at = number endian 4 bytes at

-- the first four bytes say the order of the file's numbers and the unit of its fractions
abbrev pub magic_of : ℕ → Option (Endian × Precision)
magic_of first =
    if first == 0xD4C3B2A1 then Some (Little, Micros)
    else (if first == 0xA1B2C3D4 then Some (Big, Micros)
    else (if first == 0x4D3CB2A1 then Some (Little, Nanos)
    else (if first == 0xA1B23C4D then Some (Big, Nanos)
    else None)))

abbrev pub nanos_of : Precision → ℕ
nanos_of Micros = 1000
nanos_of Nanos = 1

-- the file ended inside its header
abbrev pub short_header : List ℕ → Bad
short_header header = bad_at (length header) (ShortHeader (length header))

-- the link types that are read: Ethernet and raw IP
abbrev pub is_link : ℕ → Bool
is_link link = (link == 1) || (link == 101)

-- the format of a file by its link type
abbrev pub format_by_link : Endian × Precision → ℕ → Result Format Bad
format_by_link magic link =
    if is_link link then Ok (record { endian = magic.0; precision = magic.1; link = link }) else Err (bad_at 20 (LinkType link))

-- the same by its version, which is to be 2.4
abbrev pub format_by_version : Endian × Precision → ℕ → ℕ → ℕ → Result Format Bad
format_by_version magic major minor link =
    if (major == 2) && (minor == 4) then format_by_link magic link else Err (bad_at 4 (Version major minor))

-- the same by its magic number
abbrev pub format_by_magic : Option (Endian × Precision) → List ℕ → Result Format Bad
format_by_magic None header = Err (bad_at 0 Magic)
format_by_magic (Some magic) header =
    if nat_lt (length header) 24 then Err (short_header header)
    else format_by_version magic (number magic.0 2 header 4) (number magic.0 2 header 6) (word magic.0 header 20)

-- The format that the header says, of which the first 24 bytes of the file are given, or as many as there
-- are; or the first malformed place in it.
unfoldable pub header_of : List ℕ → Result Format Bad
header_of header = if nat_lt (length header) 4 then Err (short_header header) else format_by_magic (magic_of (word Big header 0)) header
