-- What a call of `next` answers and does.
use Rattle.std.specs.Prelude.{◌≡◌, ℕ, ◌≤◌, ◌<◌, ◌^◌, List, [], ◌∷◌, ◌++◌, true, false, length, Option, Some, Result, MatchOption, MatchResult, ◌+◌}
use Rattle.ds_base.specs.Times.{hour}
use Rattle.ds_base.specs.declared.capture.Bad.{Bad}
use Rattle.pcapng_reader.specs.declared.packet.InBlock.{InBlock}
use Rattle.pcapng_reader.specs.Packets.{packet_of}
use Rattle.pcapng_reader.specs.Times.{latest}
use Rattle.pcap_reader.specs.declared.record.RecordRef.{RecordRef}
use Rattle.pcap_reader.specs.declared.reader.Step.{Step}
use Rattle.pcap_reader.specs.declared.reader.Step.TheVariants.{Next, Other, End}
use Rattle.pcap_reader.specs.Captured.{Captured, as_record, block_behind}
use Rattle.pcap_reader.specs.Format.{is_short_header}
use Rattle.pcap_reader.specs.Good.{good}
use Rattle.pcap_reader.specs.Files.{spent_in}
use Rattle.pcap_reader.specs.Reader.{Reader, StandsFor, IsWaiting, bytes_fed, records_given, bytes_left, bytes_held, most_waiting}

-- a record that is lent, without where it lies in memory
abbrev pub captured : RecordRef → Captured
captured r = record { number = r.number; time = r.time; link = r.link; orig = r.orig; bytes = r.bytes.now }

-- The bounds that a record keeps. Its time is so far below 2^63 that an hour can be added.
pub record IsLawful (r : Captured) : Type 0 where
  pub number : r.number < 2 ^ 40
  pub time : r.time + hour < 2 ^ 63
  pub length : length r.bytes ≤ 262144

-- These are the first records of the file that are wanted, whatever bytes follow.
abbrev pub AreFirst : (wanted : Option ℕ) → List ℕ → List Captured → Type 0
AreFirst wanted fed given = (more : List ℕ) → (later : List Captured) × ((good wanted (fed ++ more)).records ≡ given ++ later)

-- The record is the next one: it is given now.
pub record GivesNext (old : Reader) (r : Captured) (new : Reader) : Type 0 where
  pub stands : (wanted : Option ℕ) (fed : List ℕ) (given : List Captured) → StandsFor wanted old fed given → StandsFor wanted new fed (given ++ r ∷ [])
  pub first : (wanted : Option ℕ) (fed : List ℕ) (given : List Captured) → StandsFor wanted old fed given → AreFirst wanted fed (given ++ r ∷ [])
  pub number : r.number ≡ records_given old
  pub given : records_given new ≡ records_given old + 1
  pub fed : bytes_fed new ≡ bytes_fed old
  pub left : bytes_left new < bytes_left old
  pub held : bytes_held new ≤ bytes_held old

-- All records were given. There is no malformed place, or the bytes fed are too short for the file's header.
pub record GivesNone (old new : Reader) : Type 0 where
  pub stands : (wanted : Option ℕ) (fed : List ℕ) (given : List Captured) → StandsFor wanted old fed given → StandsFor wanted new fed given
  pub all : (wanted : Option ℕ) (fed : List ℕ) (given : List Captured) → StandsFor wanted old fed given → (good wanted fed).records ≡ given
  pub first : (wanted : Option ℕ) (fed : List ℕ) (given : List Captured) → StandsFor wanted old fed given → AreFirst wanted fed given
  pub bad : (wanted : Option ℕ) (fed : List ℕ) (given : List Captured) → StandsFor wanted old fed given
      → MatchOption (good wanted fed).bad (Unit {0}) (λ b. is_short_header b.what ≡ true)
  pub waiting : IsWaiting new
  pub given : records_given new ≡ records_given old
  pub fed : bytes_fed new ≡ bytes_fed old
  pub held : bytes_held new ≤ bytes_held old
  pub short : bytes_held new ≤ most_waiting new

-- All records were given, and this is the malformed place, whatever bytes follow. It comes again at each
-- later call.
pub record GivesBad (old : Reader) (b : Bad) (new : Reader) : Type 0 where
  pub stands : (wanted : Option ℕ) (fed : List ℕ) (given : List Captured) → StandsFor wanted old fed given → StandsFor wanted new fed given
  pub all : (wanted : Option ℕ) (fed : List ℕ) (given : List Captured) → StandsFor wanted old fed given
      → (more : List ℕ) → (good wanted (fed ++ more)).records ≡ given
  pub bad : (wanted : Option ℕ) (fed : List ℕ) (given : List Captured) → StandsFor wanted old fed given
      → (more : List ℕ) → (good wanted (fed ++ more)).bad ≡ Some b
  pub long : is_short_header b.what ≡ false
  pub given : records_given new ≡ records_given old
  pub fed : bytes_fed new ≡ bytes_fed old
  pub held : bytes_held new ≤ bytes_held old

-- What `next` answers of a reader, and the reader afterwards
abbrev pub Gives : Reader → Result (Option RecordRef) Bad → Reader → Type 0
Gives old answer new = MatchResult answer (λ o. MatchOption o (GivesNone old new) (λ r. GivesNext old (captured r) new)) (λ b. GivesBad old b new)

-- ---- one packet

-- Packets of other interfaces were passed over: the reader stands for what it stood for.
pub record IsAlong (old new : Reader) : Type 0 where
  pub stands : (wanted : Option ℕ) (fed : List ℕ) (given : List Captured) → StandsFor wanted old fed given → StandsFor wanted new fed given
  pub given : records_given new ≡ records_given old
  pub fed : bytes_fed new ≡ bytes_fed old
  pub left : bytes_left new ≤ bytes_left old
  pub held : bytes_held new ≤ bytes_held old

-- The next record stands in the block at the end of the bytes that were read.
pub record IsFound (old : Reader) (found : InBlock) (new : Reader) : Type 0 where
  pub next : GivesNext old (as_record (records_given old) (packet_of found.packet (block_behind found.len (spent_in new.file)))) new
  pub there : found.len ≤ length (spent_in new.file)
  pub within : found.packet.from + found.packet.len ≤ found.len
  pub few : found.packet.len ≤ 262144
  pub time : found.packet.time < latest
  pub number : records_given old < 2 ^ 40

-- what a look at the next packet of the file shows
abbrev pub Shows : Reader → Reader → Step → Type 0
Shows old new (Next found) = IsFound old found new
Shows old new Other = IsAlong old new × (bytes_left new < bytes_left old)
Shows old new End = GivesNone old new × (bytes_fed new < 2 ^ 61)

abbrev pub Steps : Reader → Result Step Bad → Reader → Type 0
Steps old answer new = MatchResult answer (Shows old new) (λ b. GivesBad old b new)

-- what a step to the next record answers, and the reader afterwards
abbrev pub Advances : Reader → Result (Option InBlock) Bad → Reader → Type 0
Advances old answer new = MatchResult answer
    (λ o. MatchOption o (GivesNone old new × (bytes_fed new < 2 ^ 61)) (λ found. IsFound old found new))
    (λ b. GivesBad old b new)
