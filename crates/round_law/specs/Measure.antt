-- What a run moves in all, and the most that it can move.
use Rattle.std.specs.Prelude.{ℕ, ◌≡◌, ◌+◌, ◌-◌, ◌*◌, ◌^◌, ◌<◌, ◌≤◌, length}
use Rattle.std.specs.List.{sum_by}
use Rattle.round_law.specs.Waits.{Node, out_at}
use Rattle.round_law.specs.Rows.{moved, frames_beside, OffersFew, AreCounted}
use Rattle.round_law.specs.Links.{ComesThrough}
use Rattle.round_law.specs.Pipeline.{Net, Place, parser_at, grouper_at, processor_at, node_of, IsIn, IsAlike, EachNode, EachLink, IsSound, new_net}

-- ---- the limits

-- the most records of a capture
unfoldable pub capture_records : ℕ
capture_records = 2 ^ 40

-- more bytes than a reader of captures has taken when it waits for further ones: a libpcap file has at most 24 bytes
-- and 2^40 records of at most 262,160 bytes, a pcapng file at most 2^36 blocks of at most 16,777,216 bytes
unfoldable pub capture_bytes : ℕ
capture_bytes = 2 ^ 61

-- the most bytes that a parser reads at once
unfoldable pub piece_bytes : ℕ
piece_bytes = 4096

-- the most bytes of a frame on a link, with the length before it
unfoldable pub frame_bytes : ℕ
frame_bytes = 1028

-- a parser takes up the records of its captures, and reads at most one piece beyond each; an invariant of the node,
-- which is in none of its rows
pub record ReadsFew (captures : ℕ) (node : Node) : Type 0 where
  pub read : node.read ≤ captures * (capture_bytes + piece_bytes)
  pub records : node.records ≤ captures * capture_records

-- any other node has no capture; an invariant too
pub record ReadsNone (node : Node) : Type 0 where
  pub read : node.read ≡ 0
  pub records : node.records ≡ 0

-- the limits of jobs and shapes
pub record IsInLimits (captures : ℕ) (net : Net) : Type 0 where
  pub few_captures : captures ≤ 64
  pub parsers : length net.parsers ≤ 16
  pub groupers : length net.groupers ≤ 16
  pub processors : length net.processors ≤ 16

-- ---- the most frames of a link

-- of a node that takes up so many records and frames
abbrev pub most_offered : (taken : ℕ) → ℕ
most_offered taken = 2 * taken + frames_beside

-- from a parser, from a grouper, from a processor
abbrev pub parser_frames : (captures : ℕ) → ℕ
parser_frames captures = most_offered (captures * capture_records)

abbrev pub grouper_frames : (captures parsers : ℕ) → ℕ
grouper_frames captures parsers = most_offered (parsers * parser_frames captures)

abbrev pub processor_frames : (captures parsers groupers : ℕ) → ℕ
processor_frames captures parsers groupers = most_offered (groupers * grouper_frames captures parsers)

-- ---- the most that moves

-- at the ends of links with at most so many frames each: bytes and credits at a sender, bytes, credits and frames at
-- a receiver
abbrev pub most_sent : (links frames : ℕ) → ℕ
most_sent links frames = links * ((frame_bytes + 1) * frames)

abbrev pub most_taken : (links frames : ℕ) → ℕ
most_taken links frames = links * ((frame_bytes + 2) * frames)

-- at one node of each kind
abbrev pub parser_most : (captures groupers : ℕ) → ℕ
parser_most captures groupers = captures * (capture_bytes + piece_bytes) + captures * capture_records + most_sent (groupers + 1) (parser_frames captures)

abbrev pub grouper_most : (captures parsers processors : ℕ) → ℕ
grouper_most captures parsers processors = most_taken parsers (parser_frames captures) + most_sent processors (grouper_frames captures parsers)

abbrev pub processor_most : (captures parsers groupers : ℕ) → ℕ
processor_most captures parsers groupers =
    most_taken groupers (grouper_frames captures parsers) + most_sent 1 (processor_frames captures parsers groupers)

abbrev pub merge_most : (captures parsers groupers processors : ℕ) → ℕ
merge_most captures parsers groupers processors =
    most_taken (parsers + processors) (parser_frames captures + processor_frames captures parsers groupers)

-- of all nodes, by the number of captures and the shape
unfoldable pub most_moved : (captures parsers groupers processors : ℕ) → ℕ
most_moved captures parsers groupers processors =
    parsers * parser_most captures groupers + groupers * grouper_most captures parsers processors
    + processors * processor_most captures parsers groupers + merge_most captures parsers groupers processors

abbrev pub all_most : (captures : ℕ) → Net → ℕ
all_most captures net = most_moved captures (length net.parsers) (length net.groupers) (length net.processors)

-- what all nodes have moved
abbrev pub all_moved : Net → ℕ
all_moved net = sum_by moved net.parsers + sum_by moved net.groupers + sum_by moved net.processors + moved net.merge

-- what is ahead of a run: the measure of its loops
abbrev pub ahead : (captures : ℕ) → Net → ℕ
ahead captures net = all_most captures net + 1 - all_moved net

-- ---- the laws

-- what each node promises of its own numbers
pub record IsLimited (captures : ℕ) (net : Net) : Type 0 where
  pub parsers : (p : ℕ) → p < length net.parsers → ReadsFew captures (parser_at net p)
  pub groupers : (g : ℕ) → g < length net.groupers → ReadsNone (grouper_at net g)
  pub processors : (q : ℕ) → q < length net.processors → ReadsNone (processor_at net q)
  pub merge : ReadsNone net.merge
  pub few : EachNode OffersFew net

-- what has moved is at most the most, no link had more frames than its most, and so all of them are counted
pub record HasBound (captures : ℕ) (net : Net) : Type 0 where
  pub moved : all_moved net ≤ all_most captures net
  pub parser_links : (p k : ℕ) → p < length net.parsers → k < length net.groupers + 1
      → length (out_at (parser_at net p) k).offered ≤ parser_frames captures
  pub grouper_links : (g q : ℕ) → g < length net.groupers → q < length net.processors
      → length (out_at (grouper_at net g) q).offered ≤ grouper_frames captures (length net.parsers)
  pub processor_links : (q : ℕ) → q < length net.processors
      → length (out_at (processor_at net q) 0).offered ≤ processor_frames captures (length net.parsers) (length net.groupers)
  pub counted : EachNode AreCounted net

abbrev pub RunHasBound : (captures credits : ℕ) → Net → Type 0
RunHasBound captures credits net = IsInLimits captures net → IsSound credits net → EachLink ComesThrough net → IsLimited captures net → HasBound captures net

-- no node's count falls
pub record NoneFalls (before after : Net) : Type 0 where
  pub alike : IsAlike before after
  pub counts : (place : Place) → IsIn before place → moved (node_of before place) ≤ moved (node_of after place)

-- and some node's rises
pub record SomeMoves (before after : Net) : Type 0 where
  pub none_falls : NoneFalls before after
  pub some_rises : (place : Place) × IsIn before place × (moved (node_of before place) < moved (node_of after place))

-- then what is ahead falls, where the bound holds afterwards
abbrev pub MovesLower : (captures : ℕ) (before after : Net) → Type 0
MovesLower captures before after = SomeMoves before after → all_moved after ≤ all_most captures after → ahead captures after < ahead captures before

-- with at most 64 captures and 16 nodes of a kind, no link has 2^58 frames
abbrev pub FramesFit : (captures parsers groupers : ℕ) → Type 0
FramesFit captures parsers groupers = captures ≤ 64 → parsers ≤ 16 → groupers ≤ 16
    → (parser_frames captures < 2 ^ 58) × (grouper_frames captures parsers < 2 ^ 58) × (processor_frames captures parsers groupers < 2 ^ 58)

-- a new pipeline is within the limits
abbrev pub StartIsLimited : (captures credits parsers groupers processors : ℕ) → Type 0
StartIsLimited captures credits parsers groupers processors = IsLimited captures (new_net credits parsers groupers processors)
