-- The node of a number is the one of its place.
use Rattle.std.proofs.Common.{ℕ, ◌<◌, sym, subst}
use Rattle.pipeline_nodes.specs.Turns.{HasTurned}
use Rattle.pipeline_nodes.proofs.nodes.Nodes.turn_node.Goals as goal

pub turn_parser-requires-clause-there : goal.turn_parser-requires-clause-there
turn_parser-requires-clause-there g c = subst (λ (n : ℕ). c.in-Parser.p < n) (sym c.requires.stands.parser_count) c.in-Parser.ensures.1

pub turn_grouper-requires-clause-there : goal.turn_grouper-requires-clause-there
turn_grouper-requires-clause-there g c = subst (λ (n : ℕ). c.in-Grouper.g < n) (sym c.requires.stands.grouper_count) c.in-Grouper.ensures.1

pub turn_processor-requires-clause-there : goal.turn_processor-requires-clause-there
turn_processor-requires-clause-there g c = subst (λ (n : ℕ). c.in-Processor.q < n) (sym c.requires.stands.processor_count) c.in-Processor.ensures.1

pub returns-in-Parser-clause-turned : goal.returns-in-Parser-clause-turned
returns-in-Parser-clause-turned g c = subst (λ (n : ℕ). HasTurned n c.args.self.now.net c.turn_parser.new.self.net c.turn_parser.result) (sym c.in-Parser.ensures.0) c.turn_parser.ensures.turned

pub returns-in-Grouper-clause-turned : goal.returns-in-Grouper-clause-turned
returns-in-Grouper-clause-turned g c = subst (λ (n : ℕ). HasTurned n c.args.self.now.net c.turn_grouper.new.self.net c.turn_grouper.result) (sym c.in-Grouper.ensures.0) c.turn_grouper.ensures.turned

pub returns-in-Processor-clause-turned : goal.returns-in-Processor-clause-turned
returns-in-Processor-clause-turned g c = subst (λ (n : ℕ). HasTurned n c.args.self.now.net c.turn_processor.new.self.net c.turn_processor.result) (sym c.in-Processor.ensures.0) c.turn_processor.ensures.turned

pub returns-in-Merge-clause-turned : goal.returns-in-Merge-clause-turned
returns-in-Merge-clause-turned g c = subst (λ (n : ℕ). HasTurned n c.args.self.now.net c.turn_merge.new.self.net c.turn_merge.result) (sym c.in-Merge.ensures.0) c.turn_merge.ensures.turned
