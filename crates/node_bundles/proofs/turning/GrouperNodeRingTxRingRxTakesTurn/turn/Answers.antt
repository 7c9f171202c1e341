-- A turn is one of those that may follow one another.
use Rattle.net_law.specs.Groupers.{GrouperSeen, GrouperStands, GrouperGoes, GrouperMeets, grouper_tells, grouper_view}
use Rattle.net_law.proofs.Going.{grouper_stays}
use Rattle.node_bundles.proofs.Going.{went_by}
use Rattle.node_bundles.proofs.turning.GrouperNodeRingTxRingRxTakesTurn.turn.Goals as goal

pub returns-clause-went : goal.returns-clause-went
returns-clause-went c =
    went_by GrouperSeen GrouperStands GrouperGoes GrouperMeets (λ (n : GrouperSeen). n.fault) grouper_tells grouper_view c.args.self.now.credits c.turn.result c.args.self.now c.turn.new.self c.turn.ensures.goes c.turn.ensures.stands (grouper_stays c.args.self.now)
    c.turn.ensures.says c.turn.ensures.tells c.turn.ensures.fault c.turn.ensures.again c.turn.ensures.causes
