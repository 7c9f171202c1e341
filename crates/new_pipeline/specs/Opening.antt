-- The nodes of a pipeline that was just opened.
use Rattle.std.specs.Prelude.{ℕ, ◌≡◌, ◌<◌, List, [], map, slice_index_or}
use Rattle.ds_base.specs.Outside.{SourceSeen, SinkSeen}
use Rattle.node_lists.specs.Dealing.{AreDealt}
use Rattle.credit_link.specs.Joined.{IsNewLink}
use Rattle.summary_spec.specs.Declaration.{Declared}
use Rattle.run_law.specs.Shapes.{Shape}
use Rattle.run_law.specs.Snapshot.{unread}
use Rattle.net_law.specs.Parsers.{ParserSeen, read_of}
use Rattle.net_law.specs.Groupers.{GrouperSeen}
use Rattle.net_law.specs.Processors.{ProcessorSeen}
use Rattle.net_law.specs.Merges.{MergeSeen}
use Rattle.net_law.specs.Nets.{Net, EachPair, parser_at}
use Rattle.net_law.specs.Rounds.{NoneHasFault}

-- the pipeline of these nodes
abbrev pub net_over : Declared → Shape → (credits : ℕ) → List ParserSeen → List GrouperSeen → List ProcessorSeen → MergeSeen → Net
net_over job shape credits parsers groupers processors merge =
    record { job = job; shape = shape; credits = credits; parsers = parsers; groupers = groupers; processors = processors; merge = merge }

-- the sources that parser p has
abbrev pub sources_of : List ParserSeen → ℕ → List SourceSeen
sources_of parsers p = slice_index_or (map (λ (s : ParserSeen). s.sources) parsers) p []

-- Each parser has the sources of its captures, in rising order, and has read nothing; nothing came or went on any link;
-- the sink is as it was, and nothing was written; and no node has met a fault.
pub record IsNewOf (job : Declared) (shape : Shape) (credits : ℕ) (sources : List SourceSeen) (sink : SinkSeen) (net : Net) : Type 0 where
  pub same : (net.job ≡ job) × (net.shape ≡ shape) × (net.credits ≡ credits)
  pub sources_are : AreDealt shape.parsers sources (sources_of net.parsers)
  pub unread_are : (p c : ℕ) → p < shape.parsers → read_of (parser_at net p) c ≡ unread
  pub links : EachPair (IsNewLink credits) net
  pub sink_is : net.merge.sink ≡ sink
  pub gained : net.merge.gained ≡ []
  pub quiet : NoneHasFault net
