-- The nodes so far are done.
use Rattle.net_law.specs.Parsers.{ParserSeen, parser_view}
use Rattle.pipeline_nodes.specs.Done.{AreDone}
use Rattle.pipeline_nodes.proofs.done.parsers_done.Given as goal

abbrev pub invariant-nodes : goal.invariant-nodes
invariant-nodes g l = AreDone (λ (s : ParserSeen). s.fault) parser_view l.i l.parsers.items
