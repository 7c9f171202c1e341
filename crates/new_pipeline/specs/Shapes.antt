-- The shape of a pipeline that is opened.
use Rattle.std.specs.Prelude.{◌≤◌}
use Rattle.run_law.specs.Shapes.{Shape as Counts}
use Rattle.new_pipeline.specs.declared.shape.Shape.{Shape}

-- how many nodes of each kind there are
abbrev pub counts_of : Shape → Counts
counts_of shape = record { parsers = shape.parsers; groupers = shape.groupers; processors = shape.processors }

-- its numbers of nodes and of credits are in their limits
pub record IsWithin (shape : Shape) : Type 0 where
  pub parsers : (1 ≤ shape.parsers) × (shape.parsers ≤ 16)
  pub groupers : (1 ≤ shape.groupers) × (shape.groupers ≤ 16)
  pub processors : (1 ≤ shape.processors) × (shape.processors ≤ 16)
  pub credits : (1 ≤ shape.credits) × (shape.credits ≤ 1024)
