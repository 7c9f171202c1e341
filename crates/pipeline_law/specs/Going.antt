-- How a pipeline goes on, by any turns and looks.
use Rattle.std.specs.Prelude.{ℕ, ◌<◌, List}
use Rattle.net_law.specs.Parsers.{ParserGoes}
use Rattle.net_law.specs.Groupers.{GrouperGoes}
use Rattle.net_law.specs.Processors.{ProcessorGoes}
use Rattle.net_law.specs.Merges.{MergeGoes}
use Rattle.net_law.specs.Nets.{Net, NetStands, parser_at, grouper_at, processor_at}
use Rattle.net_law.specs.Turned.{IsAlike}
use Rattle.pipeline_law.specs.Laws.{TellsFiles}

-- its nodes are as many, and each goes on: what was read, given, offered, put and written before is a front of what is now
pub record GoesOn (before after : Net) : Type 0 where
  pub alike : IsAlike before after
  pub parsers : (p : ℕ) → p < before.shape.parsers → ParserGoes (parser_at before p) (parser_at after p)
  pub groupers : (g : ℕ) → g < before.shape.groupers → GrouperGoes (grouper_at before g) (grouper_at after g)
  pub processors : (q : ℕ) → q < before.shape.processors → ProcessorGoes (processor_at before q) (processor_at after q)
  pub merge : MergeGoes before.merge after.merge

-- the files that the sources tell stay
abbrev pub FilesStay : Type 0
FilesStay = (before after : Net) (files : List (List ℕ)) → NetStands before → GoesOn before after → TellsFiles before files → TellsFiles after files
