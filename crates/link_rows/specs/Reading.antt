-- The nodes whose rows are read, and how rows go into a list.
use Rattle.std.specs.Prelude.{ℕ, ◌≡◌, ◌<◌, ◌≤◌, ◌+◌, List, ◌++◌, length}
use Rattle.ds_base.specs.Items.{Items}
use Rattle.credit_link.specs.declared.row.LinkRow.{LinkRow}
use Rattle.net_law.specs.Parsers.{ParserSeen}
use Rattle.net_law.specs.Groupers.{GrouperSeen}
use Rattle.net_law.specs.Processors.{ProcessorSeen}
use Rattle.net_law.specs.Merges.{MergeSeen}
use Rattle.net_law.specs.Nets.{Net}
use Rattle.pipeline_law.specs.Rows.{ends_at}

-- the pipeline of these nodes, with the job and the credits of its merge
abbrev pub pipeline_of : List ParserSeen → List GrouperSeen → List ProcessorSeen → MergeSeen → Net
pipeline_of parsers groupers processors merge = record {
  job = merge.job;
  shape = record { parsers = length parsers; groupers = length groupers; processors = length processors };
  credits = merge.credits;
  parsers = parsers;
  groupers = groupers;
  processors = processors;
  merge = merge;
}

-- at most 16 nodes of each kind, and each has a link for each of those that it is linked with
pub record AreLinked (net : Net) : Type 0 where
  pub few : (length net.parsers ≤ 16) × (length net.groupers ≤ 16) × (length net.processors ≤ 16)
  pub parser_outs : (p : ℕ) → p < length net.parsers → length (ends_at (λ (s : ParserSeen). s.outs.links) net.parsers p) ≡ length net.groupers + 1
  pub grouper_ins : (g : ℕ) → g < length net.groupers → length (ends_at (λ (s : GrouperSeen). s.ins) net.groupers g) ≡ length net.parsers
  pub grouper_outs : (g : ℕ) → g < length net.groupers → length (ends_at (λ (s : GrouperSeen). s.outs.links) net.groupers g) ≡ length net.processors
  pub processor_ins : (q : ℕ) → q < length net.processors → length (ends_at (λ (s : ProcessorSeen). s.ins) net.processors q) ≡ length net.groupers
  pub processor_outs : (q : ℕ) → q < length net.processors → length (ends_at (λ (s : ProcessorSeen). s.outs.links) net.processors q) ≡ 1
  pub merge_ins : length net.merge.ins ≡ length net.parsers + length net.processors

-- these rows went behind those that were there, and there is as much room as before for all of them
pub record PutsBehind (before after : Items LinkRow) (more : List LinkRow) : Type 0 where
  pub rows : after.items ≡ before.items ++ more
  pub room : length before.items + before.spare ≤ length after.items + after.spare
