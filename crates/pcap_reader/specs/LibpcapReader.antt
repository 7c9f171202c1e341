-- What contracts see of the reader of a libpcap file, and which bytes and records it stands for.
use Rattle.std.specs.Prelude.{◌≡◌, ℕ, ◌+◌, ◌*◌, ◌-◌, ◌≤◌, ◌<◌, List, ◌++◌, true, false, length, take, Option, Some, None, Ok, Err}
use Rattle.pcap_reader.specs.declared.format.Format.{Format}
use Rattle.pcap_reader.specs.Captured.{Captured}
use Rattle.pcap_reader.specs.Format.{header_of, short_header, is_link}
use Rattle.pcap_reader.specs.Records.{most_records, begins_record, whole_records, behind_records, record_fault}
use Rattle.pcap_reader.specs.Libpcap.{file_format, libpcap_rest, libpcap_records}

-- `rest` are the bytes that were fed and not yet read, which begin at `place` of the file; `spent` are
-- bytes in front of them that are still in memory. `count` records were given. The format is known once
-- the file header was read.
pub record Reader : Type 0 where
  pub format : Option Format
  pub count : ℕ
  pub place : ℕ
  pub rest : List ℕ
  pub spent : List ℕ

-- the link type word of a file that is read is a lawful one
abbrev pub HasLawfulLink : Option Format → Type 0
HasLawfulLink None = Unit {0}
HasLawfulLink (Some format) = is_link format.link ≡ true

-- A record takes at most 262,160 bytes of the file, and its header 24.
abbrev pub IsBounded : Option Format → (count place : ℕ) → Type 0
IsBounded None count place = (place ≡ 0) × (count ≡ 0)
IsBounded (Some format) count place = (place ≤ 24 + 262160 * count) × (count ≤ most_records) × (24 ≤ place)

-- how many records were given
abbrev pub records_given : Reader → ℕ
records_given reader = reader.count

-- how many bytes were fed
abbrev pub bytes_fed : Reader → ℕ
bytes_fed reader = reader.place + length reader.rest

-- how many of them were not yet read: a loop over `next` ends since they become fewer
abbrev pub bytes_left : Reader → ℕ
bytes_left reader = length reader.rest

-- how many bytes are in memory
abbrev pub bytes_held : Reader → ℕ
bytes_held reader = length reader.spent + length reader.rest

-- A reader that has not read the file header keeps all bytes fed.
pub record IsUnopened (reader : Reader) (fed : List ℕ) : Type 0 where
  pub rest : reader.rest ≡ fed
  pub place : reader.place ≡ 0
  pub count : reader.count ≡ 0

-- A reader that has read it: whatever bytes may follow, the records of all of them are those that were
-- given and then those at the front of what is kept, and the same stands after them.
pub record IsOpened (format : Format) (reader : Reader) (fed : List ℕ) (given : List Captured) : Type 0 where
  pub header : (more : List ℕ) → file_format (fed ++ more) ≡ Ok format
  pub records : (more : List ℕ) → libpcap_records (fed ++ more)
      ≡ given ++ whole_records format (most_records - reader.count) reader.count (reader.rest ++ more)
  pub rest : (more : List ℕ) → libpcap_rest (fed ++ more)
      ≡ behind_records format (most_records - reader.count) (reader.rest ++ more)
  pub few : reader.count ≤ most_records

abbrev pub IsAt : Option Format → Reader → List ℕ → List Captured → Type 0
IsAt None reader fed given = IsUnopened reader fed
IsAt (Some format) reader fed given = IsOpened format reader fed given

-- These bytes were fed, and these records were given.
pub record StandsFor (reader : Reader) (fed : List ℕ) (given : List Captured) : Type 0 where
  pub fed_length : length fed ≡ bytes_fed reader
  pub given_length : length given ≡ reader.count
  pub position : IsAt reader.format reader fed given

abbrev pub WaitsAt : Option Format → Reader → Type 0
WaitsAt None reader = (length reader.rest < 24) × (header_of (take 24 reader.rest) ≡ Err (short_header (take 24 reader.rest)))
WaitsAt (Some format) reader = (reader.count < most_records → begins_record format reader.rest ≡ false)
    × (record_fault format reader.count reader.place reader.rest ≡ None)

-- Neither a whole record nor a malformed place is in what is kept, but that the file may be too short for
-- its header: `next` answered None, and nothing was fed since.
pub record IsWaiting (reader : Reader) : Type 0 where
  pub waits : WaitsAt reader.format reader
