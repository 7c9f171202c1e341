-- Where no frame waits, none is counted.
use Rattle.std.proofs.Common.{◌≡◌, ◌∙◌, sym, subst}
use Rattle.std.specs.Prelude.{◌==◌}
use Rattle.std.proofs.lemmas.Bool.{both_ways, eq-eqb}
use Rattle.node_lanes.specs.Resting.{NoneHeld}
use Rattle.grouper_node.specs.Works.{WorkSeen}
use Rattle.grouper_node.proofs.Putting.{none_waits}
use Rattle.grouper_node.proofs.work.Work.is_free.Goals as goal

pub returns-clause-some : goal.returns-clause-some
returns-clause-some g c busy none =
    let zero : c.waiting.result ≡ 0 = c.waiting.ensures.count ∙ none_waits c.self.inside.outs.queues (subst (λ (s : WorkSeen). NoneHeld s.outs) (sym c.self.view_is) none) in
    both_ways (c.waiting.result == 0) busy (eq-eqb c.waiting.result 0 zero)
