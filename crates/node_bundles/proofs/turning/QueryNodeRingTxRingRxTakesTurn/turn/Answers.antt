-- A turn is one of those that may follow one another.
use Rattle.net_law.specs.Processors.{ProcessorSeen, ProcessorStands, ProcessorGoes, ProcessorMeets, processor_tells, processor_view}
use Rattle.net_law.proofs.Going.{processor_stays}
use Rattle.node_bundles.proofs.Going.{went_by}
use Rattle.node_bundles.proofs.turning.QueryNodeRingTxRingRxTakesTurn.turn.Goals as goal

pub returns-clause-went : goal.returns-clause-went
returns-clause-went c =
    went_by ProcessorSeen ProcessorStands ProcessorGoes ProcessorMeets (λ (n : ProcessorSeen). n.fault) processor_tells processor_view c.args.self.now.credits c.turn.result c.args.self.now c.turn.new.self c.turn.ensures.goes c.turn.ensures.stands (processor_stays c.args.self.now)
    c.turn.ensures.says c.turn.ensures.tells c.turn.ensures.fault c.turn.ensures.again c.turn.ensures.causes
