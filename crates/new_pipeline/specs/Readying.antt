-- What a new pipeline has before the first source is moved.
use Rattle.std.specs.Prelude.{◌≡◌, List}
use Rattle.ds_base.specs.Items.{Items}
use Rattle.node_lists.specs.Lists.{items_at}
use Rattle.credit_link.specs.Ends.{TxSeen, RxSeen}
use Rattle.link_grid.specs.Pipelines.{AreLinksOf}
use Rattle.link_grid.specs.declared.pipeline.PipelineLinks.{PipelineLinks}
use Rattle.summary_spec.specs.Declaration.{Declared}
use Rattle.net_law.specs.Groupers.{GrouperSeen}
use Rattle.net_law.specs.Processors.{ProcessorSeen}
use Rattle.node_layers.specs.Layers.{IsLayer, IsNewGrouper, IsNewProcessor}
use Rattle.new_pipeline.specs.declared.shape.Shape.{Shape}

-- the groupers and the processors over new links between all nodes, and the ends that the parsers and the merge take
pub record AreReady (job : Declared) (shape : Shape) (parser_outs : List (Items TxSeen)) (groupers : List GrouperSeen) (processors : List ProcessorSeen) (merge_ins : List RxSeen) : Type 0 where
  pub links : PipelineLinks
  pub are : AreLinksOf shape.credits shape.parsers shape.groupers shape.processors links
  pub outs_are : parser_outs ≡ links.parser_outs.items
  pub groupers_are : IsLayer shape.groupers (IsNewGrouper job shape.groupers links.grouper_ins.items links.grouper_outs.items) groupers
  pub processors_are : IsLayer shape.processors (IsNewProcessor job links.processor_ins.items links.processor_outs.items) processors
  pub ins_are : merge_ins ≡ items_at links.merge_ins.items 0
