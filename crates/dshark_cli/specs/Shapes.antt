-- The shape of a pipeline by the words.
use Rattle.command_words.specs.declared.command.Sizes.{Sizes}
use Rattle.new_pipeline.specs.declared.shape.Shape.{Shape}

-- that of these sizes
abbrev pub shape_of : Sizes → Shape
shape_of sizes = record { parsers = sizes.parsers; groupers = sizes.groupers; processors = sizes.processors; credits = sizes.credits }
