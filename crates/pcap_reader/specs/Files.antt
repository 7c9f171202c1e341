-- The reader of a file of either format: which bytes and which packets of all interfaces it stands for, and what a
-- step to its next packet answers.
use Rattle.std.specs.Prelude.{◌≡◌, ℕ, ◌+◌, ◌≤◌, ◌<◌, ◌^◌, List, [], ◌∷◌, ◌++◌, Bool, true, false, length, map, nat_lt, ◌&&◌, Option, Some, Result, MatchOption, MatchResult}
use Rattle.ds_base.specs.declared.capture.Bad.{Bad}
use Rattle.pcapng_reader.specs.declared.packet.InBlock.{InBlock}
use Rattle.pcapng_reader.specs.Packet.{Packet}
use Rattle.pcapng_reader.specs.Packets.{packet_of}
use Rattle.pcapng_reader.specs.Times.{latest}
use Rattle.pcapng_reader.specs.Reader as ng
use Rattle.pcap_reader.specs.declared.file.FileReader.{FileReader}
use Rattle.pcap_reader.specs.declared.file.FileReader.TheVariants.{Libpcap, Ng}
use Rattle.pcap_reader.specs.Captured.{Captured, as_packet, block_behind}
use Rattle.pcap_reader.specs.Format.{is_short_header}
use Rattle.pcap_reader.specs.Good.{is_pcapng, file_packets, file_bad}
use Rattle.pcap_reader.specs.LibpcapReader as libpcap

-- how many packets of all interfaces were given
abbrev pub packets_given : FileReader → ℕ
packets_given (Libpcap reader) = libpcap.records_given reader
packets_given (Ng reader) = ng.packets_given reader

-- how many bytes were fed
abbrev pub fed_to : FileReader → ℕ
fed_to (Libpcap reader) = libpcap.bytes_fed reader
fed_to (Ng reader) = ng.bytes_fed reader

-- how many of them were not yet read
abbrev pub left_in : FileReader → ℕ
left_in (Libpcap reader) = libpcap.bytes_left reader
left_in (Ng reader) = ng.bytes_left reader

-- the bytes that were read and are still in memory
abbrev pub spent_in : FileReader → List ℕ
spent_in (Libpcap reader) = reader.spent
spent_in (Ng reader) = reader.spent

-- how many bytes are in memory
abbrev pub held_in : FileReader → ℕ
held_in (Libpcap reader) = libpcap.bytes_held reader
held_in (Ng reader) = ng.bytes_held reader

-- how many bytes are kept at most where more are waited for: one less than the longest record or block
abbrev pub most_held : FileReader → ℕ
most_held (Libpcap reader) = 262159
most_held (Ng reader) = 16777215

-- the reader waits: `next` answered None, and nothing was fed since
abbrev pub Waits : FileReader → Type 0
Waits (Libpcap reader) = libpcap.IsWaiting reader
Waits (Ng reader) = ng.IsWaiting reader

-- The file is no pcapng file so far. Of fewer than four bytes that is not told yet, and both formats say the same.
pub record HoldsLibpcap (reader : libpcap.Reader) (fed : List ℕ) (all : List Packet) : Type 0 where
  pub records : List Captured
  pub stands : libpcap.StandsFor reader fed records
  pub all_are : all ≡ map as_packet records
  pub other : is_pcapng fed ≡ false

pub record HoldsNg (reader : ng.Reader) (fed : List ℕ) (all : List Packet) : Type 0 where
  pub stands : ng.StandsFor reader fed all
  pub pcapng : is_pcapng fed ≡ true

-- whether bytes of which fewer than four were fed turn out to be of a pcapng file with a piece more
abbrev pub turns : libpcap.Reader → (piece : List ℕ) → Bool
turns reader piece = nat_lt (libpcap.bytes_fed reader) 4 && is_pcapng (reader.rest ++ piece)

-- These bytes were fed, and these packets were given.
abbrev pub Holds : FileReader → (fed : List ℕ) → (all : List Packet) → Type 0
Holds (Libpcap reader) fed all = HoldsLibpcap reader fed all
Holds (Ng reader) fed all = HoldsNg reader fed all

-- These are the first packets of the file, whatever bytes follow.
abbrev pub AreFirstOf : List ℕ → List Packet → Type 0
AreFirstOf fed all = (more : List ℕ) → (later : List Packet) × (file_packets (fed ++ more) ≡ all ++ later)

-- The packet is the next one.
pub record FindsNext (old : FileReader) (p : Packet) (new : FileReader) : Type 0 where
  pub stands : (fed : List ℕ) (all : List Packet) → Holds old fed all → Holds new fed (all ++ p ∷ [])
  pub given : packets_given new ≡ packets_given old + 1
  pub fed : fed_to new ≡ fed_to old
  pub left : left_in new < left_in old
  pub held : held_in new ≤ held_in old

-- It stands in the block at the end of the bytes that were read.
pub record IsInBlock (old : FileReader) (found : InBlock) (new : FileReader) : Type 0 where
  pub next : FindsNext old (packet_of found.packet (block_behind found.len (spent_in new))) new
  pub there : found.len ≤ length (spent_in new)
  pub within : found.packet.from + found.packet.len ≤ found.len
  pub few : found.packet.len ≤ 262144
  pub time : found.packet.time < latest
  pub number : packets_given old < 2 ^ 40

-- All packets were given. There is no malformed place, or the file is too short so far.
pub record FindsNone (old new : FileReader) : Type 0 where
  pub stands : (fed : List ℕ) (all : List Packet) → Holds old fed all → Holds new fed all
  pub all : (fed : List ℕ) (all : List Packet) → Holds old fed all → file_packets fed ≡ all
  pub bad : (fed : List ℕ) (all : List Packet) → Holds old fed all
      → MatchOption (file_bad fed) (Unit {0}) (λ b. is_short_header b.what ≡ true)
  pub waiting : Waits new
  pub given : packets_given new ≡ packets_given old
  pub fed : fed_to new ≡ fed_to old
  pub held : held_in new ≤ held_in old
  pub short : held_in new ≤ most_held new
  pub bounded : fed_to new < 2 ^ 61

-- All packets were given, and this is the malformed place, whatever bytes follow.
pub record FindsBad (old : FileReader) (b : Bad) (new : FileReader) : Type 0 where
  pub stands : (fed : List ℕ) (all : List Packet) → Holds old fed all → Holds new fed all
  pub all : (fed : List ℕ) (all : List Packet) → Holds old fed all → (more : List ℕ) → file_packets (fed ++ more) ≡ all
  pub bad : (fed : List ℕ) (all : List Packet) → Holds old fed all → (more : List ℕ) → file_bad (fed ++ more) ≡ Some b
  pub long : is_short_header b.what ≡ false
  pub given : packets_given new ≡ packets_given old
  pub fed : fed_to new ≡ fed_to old
  pub held : held_in new ≤ held_in old

-- what a step to the next packet answers of a reader, and the reader afterwards
abbrev pub Finds : FileReader → Result (Option InBlock) Bad → FileReader → Type 0
Finds old answer new = MatchResult answer (λ o. MatchOption o (FindsNone old new) (λ found. IsInBlock old found new)) (λ b. FindsBad old b new)
