-- What contracts see of a reader, and which bytes and packets it stands for.
use Rattle.std.specs.Prelude.{◌≡◌, ℕ, ◌+◌, ◌-◌, ◌≤◌, ◌<◌, ◌^◌, List, [], ◌∷◌, ◌++◌, true, false, Bool, length, take, drop, Option, Some, None, Result, Ok, Err, MatchOption, MatchResult, IfSome, option_map, option_to_list}
use Rattle.ds_base.specs.declared.capture.Bad.{Bad}
use Rattle.ds_base.specs.declared.capture.PcapFault.{PcapFault}
use Rattle.ds_base.specs.declared.capture.PcapFault.TheVariants.{PcapNg, Magic, ShortHeader, Version, LinkType, TooLong, TooMany, NgLength, NgTail, NgInterface, NgPacket, NgResolution, NgTime}
use Rattle.pcapng_reader.specs.declared.packet.NgRecord.{NgRecord}
use Rattle.pcapng_reader.specs.declared.packet.Found.{Found}
use Rattle.pcapng_reader.specs.declared.packet.Passed.{Passed}
use Rattle.pcapng_reader.specs.declared.packet.InBlock.{InBlock}
use Rattle.pcapng_reader.specs.Packet.{Packet}
use Rattle.pcapng_reader.specs.State.{State, bad_at}
use Rattle.pcapng_reader.specs.Packets.{packet_of}
use Rattle.pcapng_reader.specs.Steps.{step}
use Rattle.pcapng_reader.specs.Times.{latest}
use Rattle.pcapng_reader.specs.Good.{after_packets, most_blocks, walk, whole_walk, ng_packets, ng_bad}

-- `rest` are the bytes that were fed and not yet read, `spent` are bytes in front of them that are still in memory.
-- `blocks` blocks were read, after which `state` is known.
pub record Reader : Type 0 where
  pub state : State
  pub blocks : ℕ
  pub rest : List ℕ
  pub spent : List ℕ

-- how many packets were given
abbrev pub packets_given : Reader → ℕ
packets_given reader = reader.state.packets

-- how many bytes were fed
abbrev pub bytes_fed : Reader → ℕ
bytes_fed reader = reader.state.place + length reader.rest

-- how many of them were not yet read: a loop over `next` ends since they become fewer
abbrev pub bytes_left : Reader → ℕ
bytes_left reader = length reader.rest

-- how many bytes are in memory
abbrev pub bytes_held : Reader → ℕ
bytes_held reader = length reader.spent + length reader.rest

-- These bytes were fed, and these packets were given: whatever bytes may follow, the packets of all of them are those
-- that were given and then those of the blocks at the front of what is kept.
pub record StandsFor (reader : Reader) (fed : List ℕ) (given : List Packet) : Type 0 where
  pub fed_length : length fed ≡ bytes_fed reader
  pub given_length : length given ≡ packets_given reader
  pub walked : (more : List ℕ) → whole_walk (fed ++ more)
      ≡ after_packets given (walk (most_blocks - reader.blocks) reader.state (reader.rest ++ more))
  pub few : reader.blocks ≤ most_blocks

-- No whole block and no malformed place is in what is kept: `next` answered None, and nothing was fed since.
pub record IsWaiting (reader : Reader) : Type 0 where
  pub waits : reader.blocks < most_blocks → step reader.state reader.rest ≡ Ok None
  pub ends : most_blocks ≤ reader.blocks → reader.rest ≡ []

abbrev pub is_short_header : PcapFault → Bool
is_short_header PcapNg = false
is_short_header Magic = false
is_short_header (ShortHeader len) = true
is_short_header (Version major minor) = false
is_short_header (LinkType link) = false
is_short_header (TooLong at len) = false
is_short_header TooMany = false
is_short_header (NgLength len) = false
is_short_header (NgTail tail) = false
is_short_header (NgInterface id) = false
is_short_header (NgPacket number len) = false
is_short_header (NgResolution r) = false
is_short_header (NgTime number) = false

-- a packet that is lent, without where it lies in memory
abbrev pub lent : NgRecord → Packet
lent r = record { number = r.number; interface = r.interface; time = r.time; link = r.link; orig = r.orig; bytes = r.bytes.now }

-- the bounds that a packet keeps
pub record IsLawful (p : Packet) : Type 0 where
  pub number : p.number < 2 ^ 40
  pub time : p.time < latest
  pub length : length p.bytes ≤ 262144

-- These are the first packets of the file, whatever bytes follow.
abbrev pub AreFirst : List ℕ → List Packet → Type 0
AreFirst fed given = (more : List ℕ) → (later : List Packet) × (ng_packets (fed ++ more) ≡ given ++ later)

-- The packet is the next one: it is given now.
pub record GivesNext (old : Reader) (p : Packet) (new : Reader) : Type 0 where
  pub stands : (fed : List ℕ) (given : List Packet) → StandsFor old fed given → StandsFor new fed (given ++ p ∷ [])
  pub number : p.number ≡ packets_given old
  pub given : packets_given new ≡ packets_given old + 1
  pub fed : bytes_fed new ≡ bytes_fed old
  pub left : bytes_left new < bytes_left old
  pub held : bytes_held new ≤ bytes_held old

-- All packets were given. There is no malformed place, or the file is too short so far.
pub record GivesNone (old new : Reader) : Type 0 where
  pub stands : (fed : List ℕ) (given : List Packet) → StandsFor old fed given → StandsFor new fed given
  pub all : (fed : List ℕ) (given : List Packet) → StandsFor old fed given → ng_packets fed ≡ given
  pub bad : (fed : List ℕ) (given : List Packet) → StandsFor old fed given
      → MatchOption (ng_bad fed) (Unit {0}) (λ b. is_short_header b.what ≡ true)
  pub waiting : IsWaiting new
  pub given : packets_given new ≡ packets_given old
  pub fed : bytes_fed new ≡ bytes_fed old
  pub kept : bytes_held new ≤ bytes_held old
  pub held : bytes_held new ≤ 16777215

-- All packets were given, and this is the malformed place, whatever bytes follow. It comes again at each later call.
pub record GivesBad (old : Reader) (b : Bad) (new : Reader) : Type 0 where
  pub stands : (fed : List ℕ) (given : List Packet) → StandsFor old fed given → StandsFor new fed given
  pub all : (fed : List ℕ) (given : List Packet) → StandsFor old fed given → (more : List ℕ) → ng_packets (fed ++ more) ≡ given
  pub bad : (fed : List ℕ) (given : List Packet) → StandsFor old fed given → (more : List ℕ) → ng_bad (fed ++ more) ≡ Some b
  pub long : is_short_header b.what ≡ false
  pub given : packets_given new ≡ packets_given old
  pub fed : bytes_fed new ≡ bytes_fed old
  pub held : bytes_held new ≤ bytes_held old

-- what `next` answers of a reader, and the reader afterwards
abbrev pub Gives : Reader → Result (Option NgRecord) Bad → Reader → Type 0
Gives old answer new = MatchResult answer (λ o. MatchOption o (GivesNone old new) (λ r. GivesNext old (lent r) new)) (λ b. GivesBad old b new)

-- ---- one block

-- a block that was read: its length, and the packet that was found in it
abbrev pub packet_in : Passed → List ℕ → Option Packet
packet_in passed block = option_map (λ f. packet_of f block) passed.found

-- what is known of a packet that was found in a block of this length
pub record IsWithin (number len : ℕ) (f : Found) : Type 0 where
  pub there : f.from + f.len ≤ len
  pub few : f.len ≤ 262144
  pub time : f.time < latest
  pub number_is : f.number ≡ number

-- The block at the front of what is kept was read.
pub record IsPassed (old : Reader) (passed : Passed) (new : Reader) : Type 0 where
  pub few : old.blocks < most_blocks
  pub stepped : step old.state old.rest ≡ Ok (Some (record { len = passed.len; after = new.state; packet = packet_in passed (take passed.len old.rest) }))
  pub blocks : new.blocks ≡ old.blocks + 1
  pub rest : new.rest ≡ drop passed.len old.rest
  pub spent : new.spent ≡ old.spent ++ take passed.len old.rest
  pub place : new.state.place ≡ old.state.place + passed.len
  pub packets : new.state.packets ≡ old.state.packets + length (option_to_list passed.found)
  pub there : passed.len ≤ length old.rest
  pub least : 12 ≤ passed.len
  pub number : old.state.packets < 2 ^ 40
  pub within : IfSome passed.found (IsWithin old.state.packets passed.len)

-- No whole block is at the front of what is kept, and nothing malformed.
pub record IsAtEnd (reader : Reader) : Type 0 where
  pub waiting : IsWaiting reader
  pub short : length reader.rest ≤ 16777215

-- What is malformed at the front of what is kept
pub record IsFaulty (reader : Reader) (b : Bad) : Type 0 where
  pub block : reader.blocks < most_blocks → step reader.state reader.rest ≡ Err b
  pub many : most_blocks ≤ reader.blocks → (0 < length reader.rest) × (b ≡ bad_at reader.state.place TooMany)
  pub long : is_short_header b.what ≡ false

abbrev pub Passes : Reader → Result (Option Passed) Bad → Reader → Type 0
Passes old answer new = MatchResult answer
    (λ o. MatchOption o ((new ≡ old) × IsAtEnd old) (λ passed. IsPassed old passed new))
    (λ b. (new ≡ old) × IsFaulty old b)

-- ---- blocks up to the next packet

-- Blocks without packets were passed: the reader stands for what it stood for.
pub record IsAlong (old new : Reader) : Type 0 where
  pub stands : (fed : List ℕ) (given : List Packet) → StandsFor old fed given → StandsFor new fed given
  pub given : packets_given new ≡ packets_given old
  pub fed : bytes_fed new ≡ bytes_fed old
  pub left : bytes_left new ≤ bytes_left old
  pub held : bytes_held new ≤ bytes_held old

-- the block that was read last
abbrev pub last_block : (len : ℕ) → Reader → List ℕ
last_block len reader = drop (length reader.spent - len) reader.spent

-- The next packet stands in the block at the end of the bytes that were used up.
pub record IsFound (old : Reader) (found : InBlock) (new : Reader) : Type 0 where
  pub next : GivesNext old (packet_of found.packet (last_block found.len new)) new
  pub there : found.len ≤ length new.spent
  pub within : IsWithin (packets_given old) found.len found.packet
  pub number : packets_given old < 2 ^ 40

abbrev pub Advances : Reader → Result (Option InBlock) Bad → Reader → Type 0
Advances old answer new = MatchResult answer
    (λ o. MatchOption o (GivesNone old new × (bytes_fed new < 2 ^ 61)) (λ found. IsFound old found new))
    (λ b. GivesBad old b new)
