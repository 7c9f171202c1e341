-- What contracts see of a pipeline, and what is true of it between turns.
use Rattle.std.specs.Prelude.{ℕ, ◌≡◌, ◌<◌, ◌≤◌, ◌%◌, Option, Some, None, List, [], length, slice_index_or}
use Rattle.ds_base.specs.Items.{Items}
use Rattle.ds_base.specs.Outside.{SourceSeen}
use Rattle.credit_link.specs.declared.row.LinkRow.{LinkRow}
use Rattle.net_law.specs.Parsers.{source_of}
use Rattle.net_law.specs.Nets.{Net, parser_at}
use Rattle.net_law.specs.Rounds.{NoneHasFault}
use Rattle.new_pipeline.specs.Rooms.{IsRoom}
use Rattle.run_rounds.specs.declared.node_at.NodeAt.{NodeAt}
use Rattle.run_rounds.specs.Faults.{fault_at}
use Rattle.pipeline_law.specs.Going.{GoesOn}
use Rattle.pipeline_law.specs.Rows.{link_count}
use Rattle.pipeline_nodes.specs.Nodes.{NodesStand}

-- the nodes, the name of the reference to the sink, and the first fault that a turn gave
pub record PipelineSeen : Type 0 where
  pub net : Net
  pub lent : ℕ
  pub fault : Option NodeAt

-- the nodes go on, and the reference to the sink is the same
pub record PipelineGoes (before after : PipelineSeen) : Type 0 where
  pub net : GoesOn before.net after.net
  pub lent : after.lent ≡ before.lent

-- the first fault is one that its node has, and there is none only where no node has one
pub record FirstTells (net : Net) (first : Option NodeAt) : Type 0 where
  pub met : (at : NodeAt) → first ≡ Some at → fault_at net at.node ≡ Some at.fault
  pub quiet : first ≡ None → NoneHasFault net

-- the nodes stand, the first fault tells of theirs, and there is room for the sources of all captures and the rows of all
-- links
pub record PipelineHolds {S : Type 0} (net : Net) (first : Option NodeAt) (lists : List (Items S)) (gathered : Items S) (captures : ℕ) (rows : Items LinkRow) : Type 0 where
  pub nodes : NodesStand net
  pub tells : FirstTells net first
  pub room : IsRoom net.shape.parsers captures lists gathered
  pub all_captures : captures ≡ length net.job.captures
  pub no_row : rows.items ≡ []
  pub row_room : link_count net.shape ≤ rows.spare

-- there is a source for each capture, in the order of the captures, and each is as its parser has it
pub record AreSourcesOf (net : Net) (sources : List SourceSeen) : Type 0 where
  pub count : length sources ≡ length net.job.captures
  pub each : (c : ℕ) (d : SourceSeen) → c < length net.job.captures → slice_index_or sources c d ≡ source_of (parser_at net (c % net.shape.parsers)) c d
