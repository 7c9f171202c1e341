-- The nodes so far are done.
use Rattle.net_law.specs.Groupers.{GrouperSeen, grouper_view}
use Rattle.pipeline_nodes.specs.Done.{AreDone}
use Rattle.pipeline_nodes.proofs.done.groupers_done.Given as goal

abbrev pub invariant-nodes : goal.invariant-nodes
invariant-nodes l = AreDone (λ (s : GrouperSeen). s.fault) grouper_view l.i l.groupers.items
