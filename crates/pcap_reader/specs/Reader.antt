-- What contracts see of a reader, and which bytes and records it stands for.
use Rattle.std.specs.Prelude.{◌≡◌, ℕ, List, Option, length}
use Rattle.pcapng_reader.specs.Packet.{Packet}
use Rattle.pcap_reader.specs.declared.file.FileReader.{FileReader}
use Rattle.pcap_reader.specs.Captured.{Captured}
use Rattle.pcap_reader.specs.Good.{records_of}
use Rattle.pcap_reader.specs.Files.{Holds, Waits, fed_to, left_in, held_in, most_held}

-- The reader of the file's format gives the packets of all interfaces; `given` of them were wanted and given on.
pub record Reader : Type 0 where
  pub file : FileReader
  pub wanted : Option ℕ
  pub given : ℕ

-- how many records were given
abbrev pub records_given : Reader → ℕ
records_given reader = reader.given

-- how many bytes were fed
abbrev pub bytes_fed : Reader → ℕ
bytes_fed reader = fed_to reader.file

-- how many of them were not yet read: a loop over `next` ends since they become fewer
abbrev pub bytes_left : Reader → ℕ
bytes_left reader = left_in reader.file

-- how many bytes are in memory
abbrev pub bytes_held : Reader → ℕ
bytes_held reader = held_in reader.file

-- how many there are at most where `next` answered None: 262,159 of a libpcap file, 16,777,215 of a pcapng file
abbrev pub most_waiting : Reader → ℕ
most_waiting reader = most_held reader.file

-- These bytes were fed, and these records of the interface that is wanted were given.
pub record StandsFor (wanted : Option ℕ) (reader : Reader) (fed : List ℕ) (given : List Captured) : Type 0 where
  pub wants : reader.wanted ≡ wanted
  pub fed_length : length fed ≡ bytes_fed reader
  pub given_length : length given ≡ records_given reader
  pub packets : List Packet
  pub holds : Holds reader.file fed packets
  pub given_are : given ≡ records_of wanted packets

-- Neither a whole record nor a malformed place is in what is kept, but that the file may be too short for its
-- first header or block: `next` answered None, and nothing was fed since.
pub record IsWaiting (reader : Reader) : Type 0 where
  pub waits : Waits reader.file
