-- What is known of a reader by what was fed and given, without a call.
use Rattle.std.specs.Prelude.{◌≡◌, ℕ, List, Option, true, MatchOption}
use Rattle.pcap_reader.specs.Captured.{Captured}
use Rattle.pcap_reader.specs.Format.{is_short_header}
use Rattle.pcap_reader.specs.Good.{good}
use Rattle.pcap_reader.specs.Lent.{AreFirst}
use Rattle.pcap_reader.specs.Reader.{Reader, StandsFor, IsWaiting}

-- The records that a reader has given are the first of the file, whatever bytes follow.
abbrev pub GivenAreFirst : Type 0
GivenAreFirst = (wanted : Option ℕ) (reader : Reader) (fed : List ℕ) (given : List Captured) → StandsFor wanted reader fed given → AreFirst wanted fed given

-- these are all records of these bytes that are wanted, and no place of them is malformed, but that the header may
-- be cut
abbrev pub HasAll : (wanted : Option ℕ) → (fed : List ℕ) → (given : List Captured) → Type 0
HasAll wanted fed given = ((good wanted fed).records ≡ given) × MatchOption (good wanted fed).bad (Unit {0}) (λ b. is_short_header b.what ≡ true)

-- A reader that waits has given all records of the bytes fed, and found no malformed place.
abbrev pub WaitingHasAll : Type 0
WaitingHasAll = (wanted : Option ℕ) (reader : Reader) (fed : List ℕ) (given : List Captured) → IsWaiting reader → StandsFor wanted reader fed given → HasAll wanted fed given
