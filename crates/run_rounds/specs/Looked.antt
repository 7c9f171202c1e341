-- A look at all links of a pipeline.
use Rattle.std.specs.Prelude.{ℕ, ◌<◌}
use Rattle.net_law.specs.Nets.{Net, parser_at, grouper_at, processor_at}
use Rattle.net_law.specs.Steps.{ParserLooked, GrouperLooked, ProcessorLooked, MergeLooked}
use Rattle.net_law.specs.Turned.{IsAlike}

-- the ends of each node were shown their rings, and all else is as before
pub record NodesLooked (before after : Net) : Type 0 where
  pub alike : IsAlike before after
  pub parsers : (p : ℕ) → p < before.shape.parsers → ParserLooked (parser_at before p) (parser_at after p)
  pub groupers : (g : ℕ) → g < before.shape.groupers → GrouperLooked (grouper_at before g) (grouper_at after g)
  pub processors : (q : ℕ) → q < before.shape.processors → ProcessorLooked (processor_at before q) (processor_at after q)
  pub merge : MergeLooked before.merge after.merge
