-- The nodes of a pipeline that is closed.
use Rattle.std.proofs.Common.{ℕ, List, ◌≡◌, length, ap₂}
use Rattle.summary_spec.specs.Declaration.{Declared}
use Rattle.net_law.specs.Parsers.{ParserSeen}
use Rattle.net_law.specs.Groupers.{GrouperSeen}
use Rattle.net_law.specs.Processors.{ProcessorSeen}
use Rattle.net_law.specs.Merges.{MergeSeen}
use Rattle.net_law.specs.Nets.{Net, NetStands}
use Rattle.link_rows.specs.Reading.{pipeline_of}
use Rattle.pipeline_nodes.specs.Nodes.{net_of}

-- its job and its credits are those of the merge
pub same_net : (job : Declared) (credits : ℕ) (parsers : List ParserSeen) (groupers : List GrouperSeen) (processors : List ProcessorSeen) (merge : MergeSeen)
    → NetStands (net_of job credits parsers groupers processors merge) → pipeline_of parsers groupers processors merge ≡ net_of job credits parsers groupers processors merge
same_net job credits parsers groupers processors merge now = ap₂ (λ (j : Declared) (c : ℕ). net_of j c parsers groupers processors merge) now.merge.job now.merge.credits
