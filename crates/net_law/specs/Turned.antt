-- A turn of one node, and then a look at its links in: the ends that send on them are looked at too, and all else is as before.
use Rattle.std.specs.Prelude.{ℕ, ◌≡◌, ◌≢◌, ◌<◌, ◌+◌, length}
use Rattle.net_law.specs.Parsers.{ParserStands, ParserGoes}
use Rattle.net_law.specs.Groupers.{GrouperSeen, GrouperGoes}
use Rattle.net_law.specs.Processors.{ProcessorSeen, ProcessorGoes}
use Rattle.net_law.specs.Merges.{MergeSeen, MergeGoes}
use Rattle.net_law.specs.Ends.{tx_at, rx_at}
use Rattle.net_law.specs.Nets.{Net, NetStands, parser_at, grouper_at, processor_at}
use Rattle.net_law.specs.Steps.{AreLooked, ParserLooked, GrouperLooked, ProcessorLooked, MergeLooked, NetGoes}

-- the same job, shape, credits, and numbers of nodes
pub record IsAlike (before after : Net) : Type 0 where
  pub same : (after.job ≡ before.job) × (after.shape ≡ before.shape) × (after.credits ≡ before.credits)
  pub counts : (length after.parsers ≡ length before.parsers) × (length after.groupers ≡ length before.groupers) × (length after.processors ≡ length before.processors)

pub record ParserTurns (p : ℕ) (before after : Net) : Type 0 where
  pub alike : IsAlike before after
  pub goes : ParserGoes (parser_at before p) (parser_at after p)
  pub stands : ParserStands (parser_at after p)
  pub parsers : (i : ℕ) → i ≢ p → parser_at after i ≡ parser_at before i
  pub groupers : (g : ℕ) → grouper_at after g ≡ grouper_at before g
  pub processors : (q : ℕ) → processor_at after q ≡ processor_at before q
  pub merge : after.merge ≡ before.merge

pub record GrouperTurns (g : ℕ) (before after : Net) : Type 0 where
  pub alike : IsAlike before after
  pub turned : GrouperSeen
  pub goes : GrouperGoes (grouper_at before g) turned
  pub looks : GrouperLooked turned (grouper_at after g)
  pub parsers : (p : ℕ) → p < before.shape.parsers → ParserLooked (parser_at before p) (parser_at after p)
  pub groupers : (i : ℕ) → i ≢ g → grouper_at after i ≡ grouper_at before i
  pub processors : (q : ℕ) → processor_at after q ≡ processor_at before q
  pub merge : after.merge ≡ before.merge
  pub looked : (p : ℕ) → p < before.shape.parsers → AreLooked before.credits (tx_at (parser_at after p).outs.links g) (rx_at (grouper_at after g).ins p)

pub record ProcessorTurns (q : ℕ) (before after : Net) : Type 0 where
  pub alike : IsAlike before after
  pub turned : ProcessorSeen
  pub goes : ProcessorGoes (processor_at before q) turned
  pub looks : ProcessorLooked turned (processor_at after q)
  pub parsers : (p : ℕ) → parser_at after p ≡ parser_at before p
  pub groupers : (g : ℕ) → g < before.shape.groupers → GrouperLooked (grouper_at before g) (grouper_at after g)
  pub processors : (i : ℕ) → i ≢ q → processor_at after i ≡ processor_at before i
  pub merge : after.merge ≡ before.merge
  pub looked : (g : ℕ) → g < before.shape.groupers → AreLooked before.credits (tx_at (grouper_at after g).outs.links q) (rx_at (processor_at after q).ins g)

pub record MergeTurns (before after : Net) : Type 0 where
  pub alike : IsAlike before after
  pub turned : MergeSeen
  pub goes : MergeGoes before.merge turned
  pub looks : MergeLooked turned after.merge
  pub parsers : (p : ℕ) → p < before.shape.parsers → ParserLooked (parser_at before p) (parser_at after p)
  pub groupers : (g : ℕ) → grouper_at after g ≡ grouper_at before g
  pub processors : (q : ℕ) → q < before.shape.processors → ProcessorLooked (processor_at before q) (processor_at after q)
  pub counts_looked : (p : ℕ) → p < before.shape.parsers
      → AreLooked before.credits (tx_at (parser_at after p).outs.links before.shape.groupers) (rx_at after.merge.ins p)
  pub answers_looked : (q : ℕ) → q < before.shape.processors
      → AreLooked before.credits (tx_at (processor_at after q).outs.links 0) (rx_at after.merge.ins (before.shape.parsers + q))

-- each turn is a step of a pipeline that stands
pub record TurnsAreSteps (before after : Net) : Type 0 where
  pub parser : (p : ℕ) → p < before.shape.parsers → ParserTurns p before after → NetGoes before after
  pub grouper : (g : ℕ) → g < before.shape.groupers → GrouperTurns g before after → NetGoes before after
  pub processor : (q : ℕ) → q < before.shape.processors → ProcessorTurns q before after → NetGoes before after
  pub merge : MergeTurns before after → NetGoes before after

abbrev pub TurnsGoOn : Type 0
TurnsGoOn = (before after : Net) → NetStands before → TurnsAreSteps before after
