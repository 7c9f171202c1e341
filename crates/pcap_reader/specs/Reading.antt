-- Which records a libpcap file has, said without an order of reading (libpcap file format 2.4).
use Rattle.std.specs.Prelude.{◌≡◌, ◌≤◌, ◌<◌, ℕ, suc, List, [], ◌∷◌, ◌++◌, length, drop, Ok, None, false}
use Rattle.std.specs.List.{flat_map}
use Rattle.pcap_reader.specs.declared.format.Format.{Format}
use Rattle.pcap_reader.specs.Captured.{Captured}
use Rattle.pcap_reader.specs.Records.{longest, most_records, captured_length, record_length, shown}
use Rattle.pcap_reader.specs.Libpcap.{file_format, libpcap_rest}
use Rattle.pcap_reader.specs.Good.{good, is_pcapng}

-- The slice is one record: 16 bytes of header and as many bytes as it states, at most 262,144.
pub record IsRecord (format : Format) (slice : List ℕ) : Type 0 where
  pub header : 16 ≤ length slice
  pub whole : length slice ≡ record_length format slice
  pub lawful : captured_length format slice ≤ longest

abbrev pub AreRecords : Format → List (List ℕ) → Type 0
AreRecords format [] = Unit {0}
AreRecords format (slice ∷ slices) = IsRecord format slice × AreRecords format slices

-- what the slices show, numbered from `number` on
abbrev pub all_shown : Format → ℕ → List (List ℕ) → List Captured
all_shown format number [] = []
all_shown format number (slice ∷ slices) = shown format number slice ∷ all_shown format (suc number) slices

abbrev pub joined : List (List ℕ) → List ℕ
joined slices = flat_map (λ slice. slice) slices

-- The bytes are these slices, joined, and a rest. Each slice is a record, there are at most so many, and
-- where one more may come none stands at the front of the rest.
pub record IsReading (format : Format) (most : ℕ) (bytes : List ℕ) (slices : List (List ℕ)) (rest : List ℕ) : Type 0 where
  pub bytes_are : bytes ≡ joined slices ++ rest
  pub each : AreRecords format slices
  pub few : length slices ≤ most
  pub last : length slices < most → (slice behind : List ℕ) → IsRecord format slice → rest ≡ slice ++ behind → ⊥

-- Exactly one list of slices is a reading.
abbrev pub OneReading : Type 0
OneReading = (format : Format) (most : ℕ) (bytes : List ℕ) (slices others : List (List ℕ)) (rest left : List ℕ)
    → IsReading format most bytes slices rest → IsReading format most bytes others left → (slices ≡ others) × (rest ≡ left)

-- The records of a file with a lawful header are those that a reading of the bytes after it shows.
pub record ReadingOf (format : Format) (bytes : List ℕ) : Type 0 where
  pub slices : List (List ℕ)
  pub rest : List ℕ
  pub reading : IsReading format most_records (drop 24 bytes) slices rest
  pub records : (good None bytes).records ≡ all_shown format 0 slices
  pub behind : libpcap_rest bytes ≡ rest

abbrev pub HasReading : Type 0
HasReading = (format : Format) (bytes : List ℕ) → is_pcapng bytes ≡ false → file_format bytes ≡ Ok format → ReadingOf format bytes
