-- The links of each grouper and processor are new.
use Rattle.std.proofs.Common.{arith}
use Rattle.new_pipeline.proofs.Linked.{grouper_links, processor_links}
use Rattle.new_pipeline.proofs.layers.new_layers.Goals as goal

pub grouper_layer-requires-clause-links : goal.grouper_layer-requires-clause-links
grouper_layer-requires-clause-links c = λ g less.
    grouper_links c.args.shape.credits c.args.shape.parsers c.args.shape.groupers c.args.shape.processors c.in_ok-links.links c.in_ok-links.ensures g
    (omega (arith, less, c.in_ok-links.ensures.grouper_lists.0)) c.requires.parsers c.requires.processors

pub processor_layer-requires-clause-links : goal.processor_layer-requires-clause-links
processor_layer-requires-clause-links c = λ q less.
    processor_links c.args.shape.credits c.args.shape.parsers c.args.shape.groupers c.args.shape.processors c.in_ok-links.links c.in_ok-links.ensures q
    (omega (arith, less, c.in_ok-links.ensures.processor_lists.0)) c.requires.groupers
