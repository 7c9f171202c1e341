-- Which node a number is.
use Rattle.std.specs.Prelude.{ℕ, ◌≡◌, ◌<◌, ◌+◌}
use Rattle.net_law.specs.Nets.{Net}
use Rattle.pipeline_nodes.specs.declared.place.NodePlace.{NodePlace}
use Rattle.pipeline_nodes.specs.declared.place.NodePlace.TheVariants.{Parser, Grouper, Processor, Merge}

abbrev pub number_of : Net → NodePlace → ℕ
number_of net (Parser p) = p
number_of net (Grouper g) = net.shape.parsers + g
number_of net (Processor q) = net.shape.parsers + net.shape.groupers + q
number_of net Merge = net.shape.parsers + net.shape.groupers + net.shape.processors

abbrev pub IsIn : Net → NodePlace → Type 0
IsIn net (Parser p) = p < net.shape.parsers
IsIn net (Grouper g) = g < net.shape.groupers
IsIn net (Processor q) = q < net.shape.processors
IsIn net Merge = Unit {0}

-- the node of this number is there
abbrev pub IsPlaceOf : Net → (node : ℕ) → NodePlace → Type 0
IsPlaceOf net node place = (node ≡ number_of net place) × IsIn net place
