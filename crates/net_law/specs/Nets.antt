-- The nodes of a pipeline over rings, as plain values, and what is true of all of them together.
use Rattle.std.specs.Prelude.{ℕ, ◌≡◌, ◌<◌, ◌+◌, ◌%◌, ◌++◌, IsTrue, List, [], None, length, slice_index_or}
use Rattle.ds_base.specs.Outside.{SourceSeen}
use Rattle.credit_link.specs.Ends.{TxSeen, RxSeen}
use Rattle.credit_link.specs.Joined.{AreOneLink}
use Rattle.shuffle_poll.specs.Shuffles.{ShuffleSeen}
use Rattle.summary_spec.specs.Declaration.{Declared}
use Rattle.round_law.specs.Links.{ring_bytes}
use Rattle.run_law.specs.Shapes.{Shape, IsShape, IsFront}
use Rattle.run_law.specs.Snapshot.{Link, Lists, file_of}
use Rattle.node_lanes.specs.Ends.{given_on, put_on}
use Rattle.net_law.specs.Ends.{sent_on, tx_at, rx_at}
use Rattle.net_law.specs.Parsers.{ParserSeen, ParserStands, read_of, source_of}
use Rattle.net_law.specs.Groupers.{GrouperSeen, GrouperStands}
use Rattle.net_law.specs.Processors.{ProcessorSeen, ProcessorStands}
use Rattle.net_law.specs.Merges.{MergeSeen, MergeStands}

-- the job, the shape, the credits of each link, and the nodes in the order of their numbers
pub record Net : Type 0 where
  pub job : Declared
  pub shape : Shape
  pub credits : ℕ
  pub parsers : List ParserSeen
  pub groupers : List GrouperSeen
  pub processors : List ProcessorSeen
  pub merge : MergeSeen

abbrev pub no_outs : ShuffleSeen
no_outs = record { links = []; queues = [] }

abbrev pub no_parser : Declared → ParserSeen
no_parser job = record { job = job; me = 0; parsers = 0; credits = 0; sources = []; reads = []; behind = []; held = []; outs = no_outs; fault = None }

abbrev pub no_grouper : Declared → GrouperSeen
no_grouper job = record { job = job; me = 0; groupers = 0; credits = 0; ins = []; outs = no_outs; fault = None }

abbrev pub no_processor : Declared → ProcessorSeen
no_processor job = record { job = job; credits = 0; ins = []; outs = no_outs; fault = None }

abbrev pub parser_at : Net → ℕ → ParserSeen
parser_at net p = slice_index_or net.parsers p (no_parser net.job)

abbrev pub grouper_at : Net → ℕ → GrouperSeen
grouper_at net g = slice_index_or net.groupers g (no_grouper net.job)

abbrev pub processor_at : Net → ℕ → ProcessorSeen
processor_at net q = slice_index_or net.processors q (no_processor net.job)

-- ---- the links

-- each link, by its two ends
pub record EachPair (R : TxSeen → RxSeen → Type 0) (net : Net) : Type 0 where
  pub to_grouper : (p g : ℕ) → p < net.shape.parsers → g < net.shape.groupers → R (tx_at (parser_at net p).outs.links g) (rx_at (grouper_at net g).ins p)
  pub to_merge : (p : ℕ) → p < net.shape.parsers → R (tx_at (parser_at net p).outs.links net.shape.groupers) (rx_at net.merge.ins p)
  pub to_processor : (g q : ℕ) → g < net.shape.groupers → q < net.shape.processors → R (tx_at (grouper_at net g).outs.links q) (rx_at (processor_at net q).ins g)
  pub from_processor : (q : ℕ) → q < net.shape.processors → R (tx_at (processor_at net q).outs.links 0) (rx_at net.merge.ins (net.shape.parsers + q))

-- the two ends of one link over rings with so many credits, which tell; the frames given are a front of those offered
pub record AreEnds (number : ℕ) (tx : TxSeen) (rx : RxSeen) : Type 0 where
  pub one : AreOneLink tx rx
  pub data_places : tx.forth_name.capacity ≡ ring_bytes
  pub credit_places : tx.back_name.capacity ≡ number
  pub told : IsTrue tx.forth.told × IsTrue tx.back.told × IsTrue rx.forth.told × IsTrue rx.back.told
  pub front : IsFront rx.given tx.offered

-- ---- what stands at every moment

pub record IsParserOf (net : Net) (p : ℕ) (s : ParserSeen) : Type 0 where
  pub job : s.job ≡ net.job
  pub me : s.me ≡ p
  pub parsers : s.parsers ≡ net.shape.parsers
  pub credits : s.credits ≡ net.credits
  pub outs : length s.outs.links ≡ net.shape.groupers + 1
  pub stands : ParserStands s

pub record IsGrouperOf (net : Net) (g : ℕ) (s : GrouperSeen) : Type 0 where
  pub job : s.job ≡ net.job
  pub me : s.me ≡ g
  pub groupers : s.groupers ≡ net.shape.groupers
  pub credits : s.credits ≡ net.credits
  pub ins : length s.ins ≡ net.shape.parsers
  pub outs : length s.outs.links ≡ net.shape.processors
  pub stands : GrouperStands s

pub record IsProcessorOf (net : Net) (s : ProcessorSeen) : Type 0 where
  pub job : s.job ≡ net.job
  pub credits : s.credits ≡ net.credits
  pub ins : length s.ins ≡ net.shape.groupers
  pub stands : ProcessorStands s

pub record IsMergeOf (net : Net) (s : MergeSeen) : Type 0 where
  pub job : s.job ≡ net.job
  pub parsers : s.parsers ≡ net.shape.parsers
  pub credits : s.credits ≡ net.credits
  pub ins : length s.ins ≡ net.shape.parsers + net.shape.processors
  pub stands : MergeStands s

-- the nodes are those of the shape, each keeps its promise, and both ends of each link belong together
pub record NetStands (net : Net) : Type 0 where
  pub shape_is : IsShape net.shape
  pub parser_count : length net.parsers ≡ net.shape.parsers
  pub grouper_count : length net.groupers ≡ net.shape.groupers
  pub processor_count : length net.processors ≡ net.shape.processors
  pub parsers : (p : ℕ) → p < net.shape.parsers → IsParserOf net p (parser_at net p)
  pub groupers : (g : ℕ) → g < net.shape.groupers → IsGrouperOf net g (grouper_at net g)
  pub processors : (q : ℕ) → q < net.shape.processors → IsProcessorOf net (processor_at net q)
  pub merge : IsMergeOf net net.merge
  pub links : EachPair (AreEnds net.credits) net

-- ---- the lists of a run

-- each source tells, and its bytes are the capture's file
abbrev pub AreFiles : Net → List (List ℕ) → Type 0
AreFiles net files = (c : ℕ) (d : SourceSeen) → c < length net.job.captures
    → IsTrue (source_of (parser_at net (c % net.shape.parsers)) c d).told × ((source_of (parser_at net (c % net.shape.parsers)) c d).whole ≡ file_of files c)

-- link k out, and link j in at its other end
abbrev pub link_of : ShuffleSeen → (k : ℕ) → List RxSeen → (j : ℕ) → Link
link_of outs k ins j = record { put = put_on outs k; sent = sent_on outs k; taken = given_on ins j }

abbrev pub lists_of : Net → (start : List ℕ) → Lists
lists_of net start = record {
  read = λ c. read_of (parser_at net (c % net.shape.parsers)) c;
  items = λ p g. link_of (parser_at net p).outs g (grouper_at net g).ins p;
  counts = λ p. link_of (parser_at net p).outs net.shape.groupers net.merge.ins p;
  groups = λ g q. link_of (grouper_at net g).outs q (processor_at net q).ins g;
  answers = λ q. link_of (processor_at net q).outs 0 net.merge.ins (net.shape.parsers + q);
  written = start ++ net.merge.gained;
}
