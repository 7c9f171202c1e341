-- What a phase leaves of the nodes of a bundle.
use Rattle.std.specs.Prelude.{◌≡◌}
use Rattle.net_law.specs.Parsers.{ParserSeen}
use Rattle.net_law.specs.Groupers.{GrouperSeen}
use Rattle.net_law.specs.Processors.{ProcessorSeen}
use Rattle.node_bundles.specs.declared.any_node.AnyNode.{AnyNode}
use Rattle.node_bundles.specs.declared.any_node.AnyNode.TheVariants.{Parser, Grouper, Processor}
use Rattle.node_bundles.specs.Kinds.{ParserWent, GrouperWent, ProcessorWent}

-- it is of the same kind, went on by turns, none or more, and keeps its promise
abbrev pub AnyWent : (S : Type 0) → AnyNode S → AnyNode S → Type 0
AnyWent S (Parser a) after = (b : ParserSeen) × (after ≡ Parser b) × ParserWent a b
AnyWent S (Grouper a) after = (b : GrouperSeen) × (after ≡ Grouper b) × GrouperWent a b
AnyWent S (Processor a) after = (b : ProcessorSeen) × (after ≡ Processor b) × ProcessorWent a b
