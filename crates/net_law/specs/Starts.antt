-- New nodes, over new links and fresh sources, stand: no clause of what nodes keep is impossible.
use Rattle.std.specs.Prelude.{ℕ, ◌≡◌, ◌<◌, ◌≤◌, ◌+◌, false, List, [], All, None, length, replicate}
use Rattle.ds_base.specs.Outside.{SourceSeen, SinkSeen, IsFresh}
use Rattle.credit_link.specs.Ends.{TxSeen, RxSeen, RxStands}
use Rattle.credit_link.specs.Joined.{IsNewLink}
use Rattle.shuffle_poll.specs.Shuffles.{ShuffleSeen, ShuffleHolds}
use Rattle.summary_spec.specs.Declaration.{Declared}
use Rattle.summary_spec.specs.Lawful.{IsLawful}
use Rattle.run_law.specs.Snapshot.{unread}
use Rattle.net_law.specs.Parsers.{ParserSeen, ParserStands, IsOwn, place_of, capture_at}
use Rattle.net_law.specs.Groupers.{GrouperSeen, GrouperStands}
use Rattle.net_law.specs.Processors.{ProcessorSeen, ProcessorStands}
use Rattle.net_law.specs.Merges.{MergeSeen, MergeStands}
use Rattle.net_law.specs.Nets.{AreEnds}

-- an end on which nothing came or went, and whose other numbers are those of a new end
pub record IsNewTx (number : ℕ) (l : TxSeen) : Type 0 where
  pub credits : l.credits ≡ number
  pub offered : l.offered ≡ []
  pub fault : l.fault ≡ None

pub record IsNewRx (number : ℕ) (l : RxSeen) : Type 0 where
  pub stands : RxStands l
  pub credits : l.credits ≡ number
  pub given : l.given ≡ []
  pub ungranted : l.ungranted ≡ 0
  pub fault : l.fault ≡ None

abbrev pub new_outs : List TxSeen → ShuffleSeen
new_outs links = record { links = links; queues = replicate (length links) [] }

-- links out of a new node, as a new shuffle has them
pub record AreNewOuts (number : ℕ) (links : List TxSeen) : Type 0 where
  pub holds : ShuffleHolds links (replicate (length links) [])
  pub each : All (IsNewTx number) links

abbrev pub new_parser : Declared → (me parsers credits : ℕ) → List SourceSeen → List TxSeen → ParserSeen
new_parser job me parsers credits sources links = record {
  job = job;
  me = me;
  parsers = parsers;
  credits = credits;
  sources = sources;
  reads = replicate (length sources) unread;
  behind = replicate (length sources) 0;
  held = replicate (length sources) 0;
  outs = new_outs links;
  fault = None;
}

-- one source a capture of the parser
pub record AreOwn (s : ParserSeen) : Type 0 where
  pub captures : (c : ℕ) → IsOwn s c → place_of s c < length s.sources
  pub own : (i : ℕ) → i < length s.sources → IsOwn s (capture_at s i)

abbrev pub ParserStarts : Type 0
ParserStarts = (job : Declared) (me parsers credits : ℕ) (sources : List SourceSeen) (links : List TxSeen) → IsLawful job → me < parsers → parsers ≤ 16
    → 2 ≤ length links → length links ≤ 17 → All IsFresh sources → AreOwn (new_parser job me parsers credits sources links) → AreNewOuts credits links
    → ParserStands (new_parser job me parsers credits sources links)

abbrev pub new_grouper : Declared → (me groupers credits : ℕ) → List RxSeen → List TxSeen → GrouperSeen
new_grouper job me groupers credits ins links = record { job = job; me = me; groupers = groupers; credits = credits; ins = ins; outs = new_outs links; fault = None }

abbrev pub GrouperStarts : Type 0
GrouperStarts = (job : Declared) (me groupers credits : ℕ) (ins : List RxSeen) (links : List TxSeen) → IsLawful job → me < groupers → groupers ≤ 16
    → 1 ≤ length ins → length ins ≤ 16 → 1 ≤ length links → length links ≤ 16 → All (IsNewRx credits) ins → AreNewOuts credits links
    → GrouperStands (new_grouper job me groupers credits ins links)

abbrev pub new_processor : Declared → (credits : ℕ) → List RxSeen → List TxSeen → ProcessorSeen
new_processor job credits ins links = record { job = job; credits = credits; ins = ins; outs = new_outs links; fault = None }

abbrev pub ProcessorStarts : Type 0
ProcessorStarts = (job : Declared) (credits : ℕ) (ins : List RxSeen) (links : List TxSeen) → IsLawful job
    → 1 ≤ length ins → length ins ≤ 16 → length links ≡ 1 → All (IsNewRx credits) ins → AreNewOuts credits links → ProcessorStands (new_processor job credits ins links)

abbrev pub new_merge : Declared → (parsers credits : ℕ) → List RxSeen → SinkSeen → MergeSeen
new_merge job parsers credits ins sink =
    record { job = job; parsers = parsers; credits = credits; ins = ins; sink = sink; gained = []; wrote_all = false; fault = None }

abbrev pub MergeStarts : Type 0
MergeStarts = (job : Declared) (parsers credits : ℕ) (ins : List RxSeen) (sink : SinkSeen) → IsLawful job → 1 ≤ parsers → parsers ≤ 16
    → parsers < length ins → length ins ≤ parsers + 16 → All (IsNewRx credits) ins → MergeStands (new_merge job parsers credits ins sink)

-- the ends of a new link over rings are those of one link, and new
pub record NewLinkStarts (number : ℕ) (tx : TxSeen) (rx : RxSeen) : Type 0 where
  pub ends : AreEnds number tx rx
  pub sending : IsNewTx number tx
  pub receiving : IsNewRx number rx

abbrev pub NewLinksStart : Type 0
NewLinksStart = (number : ℕ) (tx : TxSeen) (rx : RxSeen) → IsNewLink number tx rx → RxStands rx → NewLinkStarts number tx rx
