-- The nodes so far are done.
use Rattle.net_law.specs.Processors.{ProcessorSeen, processor_view}
use Rattle.pipeline_nodes.specs.Done.{AreDone}
use Rattle.pipeline_nodes.proofs.done.processors_done.Given as goal

abbrev pub invariant-nodes : goal.invariant-nodes
invariant-nodes l = AreDone (λ (s : ProcessorSeen). s.fault) processor_view l.i l.processors.items
