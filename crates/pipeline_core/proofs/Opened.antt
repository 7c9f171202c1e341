-- A pipeline that was just opened.
use Rattle.std.proofs.Common.{ℕ, List, [], ◌≡◌, ◌≤◌, None, Some, Option, length, refl, sym, ap, ◌∙◌, subst}
use Rattle.ds_base.specs.Items.{Items}
use Rattle.ds_base.specs.Outside.{SourceSeen, SinkSeen}
use Rattle.credit_link.specs.declared.row.LinkRow.{LinkRow}
use Rattle.credit_link.specs.declared.turn.NodeFault.{NodeFault}
use Rattle.summary_spec.specs.Declaration.{Declared}
use Rattle.net_law.specs.Parsers.{ParserSeen}
use Rattle.net_law.specs.Groupers.{GrouperSeen}
use Rattle.net_law.specs.Processors.{ProcessorSeen}
use Rattle.net_law.specs.Merges.{MergeSeen}
use Rattle.net_law.specs.Nets.{Net, NetStands}
use Rattle.new_pipeline.specs.Opening.{net_over, sources_of, IsNewOf}
use Rattle.new_pipeline.specs.Rooms.{IsRoom}
use Rattle.new_pipeline.specs.Shapes.{counts_of}
use Rattle.new_pipeline.specs.declared.shape.Shape.{Shape}
use Rattle.run_rounds.specs.Faults.{fault_at}
use Rattle.pipeline_law.specs.Rows.{link_count}
use Rattle.pipeline_nodes.specs.Nodes.{IsNoLink, net_of}
use Rattle.pipeline_core.specs.Pipelines.{PipelineHolds, AreSourcesOf}
use Rattle.pipeline_core.proofs.Gathering.{by_captures}
use Rattle.pipeline_core.proofs.Holding.{none_at}

module _ (job : Declared) (shape : Shape) (parsers : List ParserSeen) (groupers : List GrouperSeen) (processors : List ProcessorSeen) (merge : MergeSeen)
    (stands : NetStands (net_over job (counts_of shape) shape.credits parsers groupers processors merge)) where
  -- its shape is how many nodes there are
  pub by_lengths : (R : Net → Type 0) → R (net_over job (counts_of shape) shape.credits parsers groupers processors merge) → R (net_of job shape.credits parsers groupers processors merge)
  by_lengths R h =
      subst (λ (p : ℕ). R (net_over job (record { parsers = p; groupers = length groupers; processors = length processors }) shape.credits parsers groupers processors merge)) (sym stands.parser_count)
      (subst (λ (g : ℕ). R (net_over job (record { parsers = shape.parsers; groupers = g; processors = length processors }) shape.credits parsers groupers processors merge)) (sym stands.grouper_count)
      (subst (λ (q : ℕ). R (net_over job (record { parsers = shape.parsers; groupers = shape.groupers; processors = q }) shape.credits parsers groupers processors merge)) (sym stands.processor_count) h))

  module _ (sources : List SourceSeen) (sink : SinkSeen) (new : IsNewOf job (counts_of shape) shape.credits sources sink (net_over job (counts_of shape) shape.credits parsers groupers processors merge)) where
    pub opened_sources : AreSourcesOf (net_of job shape.credits parsers groupers processors merge) sources
    opened_sources = by_lengths (λ net. AreSourcesOf net sources) (by_captures (net_over job (counts_of shape) shape.credits parsers groupers processors merge) stands sources new.sources_are)

    pub opened_holds : {S : Type 0} (lists : List (Items S)) (gathered : Items S) (captures : ℕ) (rows : Items LinkRow) → IsRoom shape.parsers captures lists gathered → captures ≡ length job.captures → rows.items ≡ []
        → link_count (counts_of shape) ≤ rows.spare → PipelineHolds (net_of job shape.credits parsers groupers processors merge) None lists gathered captures rows
    opened_holds lists gathered captures rows room all none fits =
        by_lengths (λ net. PipelineHolds net None lists gathered captures rows)
        (record {
          nodes = record { stands = stands; no_link = λ n bad is. absurd (wrong n bad is) };
          tells = record { met = λ at is. absurd (let no : None ≡ Some at = is in cc); quiet = λ is. new.quiet };
          room = room;
          all_captures = all;
          no_row = none;
          row_room = fits;
        })
      where
        wrong : (n : ℕ) (bad : NodeFault) → fault_at (net_over job (counts_of shape) shape.credits parsers groupers processors merge) n ≡ Some bad → ⊥
        wrong n bad is = let no : None ≡ Some bad = sym (none_at (net_over job (counts_of shape) shape.credits parsers groupers processors merge) stands new.quiet n) ∙ is in absurd (cc)
