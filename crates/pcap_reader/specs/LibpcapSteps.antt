-- What a step to the next record of a libpcap file answers and does.
use Rattle.std.specs.Prelude.{◌≡◌, ℕ, ◌-◌, drop, take, ◌≤◌, ◌<◌, ◌^◌, List, [], ◌∷◌, ◌++◌, true, false, length, Option, Some, None, Result, Err, MatchOption, MatchResult, ◌+◌}
use Rattle.ds_base.specs.declared.capture.Bad.{Bad}
use Rattle.pcap_reader.specs.declared.format.Format.{Format}
use Rattle.pcap_reader.specs.declared.record.FoundRecord.{FoundRecord}
use Rattle.pcapng_reader.specs.declared.packet.InBlock.{InBlock}
use Rattle.pcapng_reader.specs.Packets.{packet_of}
use Rattle.pcapng_reader.specs.Times.{latest}
use Rattle.pcap_reader.specs.Captured.{Captured, as_packet, block_behind}
use Rattle.pcap_reader.specs.Format.{header_of, is_link, is_short_header}
use Rattle.pcap_reader.specs.Records.{most_records, shown}
use Rattle.pcap_reader.specs.Libpcap.{libpcap_records, libpcap_bad}
use Rattle.pcap_reader.specs.LibpcapReader.{Reader, StandsFor, WaitsAt, IsWaiting, bytes_fed, records_given, bytes_left, bytes_held}

-- These are the first records of the file, whatever bytes follow.
abbrev pub AreFirst : List ℕ → List Captured → Type 0
AreFirst fed given = (more : List ℕ) → (later : List Captured) × (libpcap_records (fed ++ more) ≡ given ++ later)

-- The record is the next one: it is given now.
pub record GivesNext (old : Reader) (r : Captured) (new : Reader) : Type 0 where
  pub stands : (fed : List ℕ) (given : List Captured) → StandsFor old fed given → StandsFor new fed (given ++ r ∷ [])
  pub number : r.number ≡ records_given old
  pub given : records_given new ≡ records_given old + 1
  pub fed : bytes_fed new ≡ bytes_fed old
  pub left : bytes_left new < bytes_left old
  pub held : bytes_held new ≤ bytes_held old

-- All records were given. There is no malformed place, or the bytes fed are too short for the file header.
pub record GivesNone (old new : Reader) : Type 0 where
  pub stands : (fed : List ℕ) (given : List Captured) → StandsFor old fed given → StandsFor new fed given
  pub all : (fed : List ℕ) (given : List Captured) → StandsFor old fed given → libpcap_records fed ≡ given
  pub bad : (fed : List ℕ) (given : List Captured) → StandsFor old fed given
      → MatchOption (libpcap_bad fed) (Unit {0}) (λ b. is_short_header b.what ≡ true)
  pub waiting : IsWaiting new
  pub given : records_given new ≡ records_given old
  pub fed : bytes_fed new ≡ bytes_fed old
  pub held : bytes_held new ≤ bytes_held old
  pub short : bytes_held new ≤ 262159

-- All records were given, and this is the malformed place, whatever bytes follow. It comes again at each
-- later call.
pub record GivesBad (old : Reader) (b : Bad) (new : Reader) : Type 0 where
  pub stands : (fed : List ℕ) (given : List Captured) → StandsFor old fed given → StandsFor new fed given
  pub all : (fed : List ℕ) (given : List Captured) → StandsFor old fed given → (more : List ℕ) → libpcap_records (fed ++ more) ≡ given
  pub bad : (fed : List ℕ) (given : List Captured) → StandsFor old fed given → (more : List ℕ) → libpcap_bad (fed ++ more) ≡ Some b
  pub long : is_short_header b.what ≡ false
  pub given : records_given new ≡ records_given old
  pub fed : bytes_fed new ≡ bytes_fed old
  pub held : bytes_held new ≤ bytes_held old

-- The file header was read: the reader stands for what it stood for.
pub record IsNowOpen (old : Reader) (f : Format) (new : Reader) : Type 0 where
  pub format : new.format ≡ Some f
  pub link : is_link f.link ≡ true
  pub stands : (fed : List ℕ) (given : List Captured) → StandsFor old fed given → StandsFor new fed given
  pub given : records_given new ≡ records_given old
  pub fed : bytes_fed new ≡ bytes_fed old
  pub left : bytes_left new ≤ bytes_left old
  pub held : bytes_held new ≤ bytes_held old

-- what a look at the file header answers, and the reader afterwards
abbrev pub Opens : Reader → Result (Option Format) Bad → Reader → Type 0
Opens old answer new = MatchResult answer
    (λ o. MatchOption o
    ((new ≡ old) × (old.format ≡ None) × WaitsAt None old)
    (λ format. IsNowOpen old format new))
    (λ b. (new ≡ old) × (old.format ≡ None) × (header_of (take 24 old.rest) ≡ Err b) × (is_short_header b.what ≡ false))

-- the bytes of the record that was found, with its header
abbrev pub found_bytes : FoundRecord → Reader → List ℕ
found_bytes found reader = drop (length reader.spent - found.len) reader.spent

-- The next record stands at the end of the bytes that were used up.
pub record IsFound (old : Reader) (found : FoundRecord) (new : Reader) : Type 0 where
  pub next : GivesNext old (shown found.format found.number (found_bytes found new)) new
  pub number : found.number < most_records
  pub link : is_link found.format.link ≡ true
  pub there : found.len ≤ length new.spent
  pub least : 16 ≤ found.len
  pub most : found.len ≤ 262160

-- the same for a step to the next record
abbrev pub Advances : Reader → Result (Option FoundRecord) Bad → Reader → Type 0
Advances old answer new = MatchResult answer (λ o. MatchOption o (GivesNone old new × (bytes_fed new < 2 ^ 61)) (λ found. IsFound old found new)) (λ b. GivesBad old b new)

-- the same, with what the record says and where its bytes lie
pub record IsRecordFound (old : Reader) (found : InBlock) (new : Reader) : Type 0 where
  pub shown_as : Captured
  pub next : GivesNext old shown_as new
  pub is : packet_of found.packet (block_behind found.len new.spent) ≡ as_packet shown_as
  pub there : found.len ≤ length new.spent
  pub within : found.packet.from + found.packet.len ≤ found.len
  pub few : found.packet.len ≤ 262144
  pub time : found.packet.time < latest
  pub number : records_given old < 2 ^ 40

abbrev pub FindsRecord : Reader → Result (Option InBlock) Bad → Reader → Type 0
FindsRecord old answer new = MatchResult answer (λ o. MatchOption o (GivesNone old new × (bytes_fed new < 2 ^ 61)) (λ found. IsRecordFound old found new)) (λ b. GivesBad old b new)
