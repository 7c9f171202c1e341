-- A turn is one of those that may follow one another.
use Rattle.net_law.specs.Merges.{MergeStands, MergeMeets, merge_tells, merge_view}
use Rattle.result_merge.specs.Nodes.{MergeLent}
use Rattle.node_bundles.specs.Kinds.{MergeOn, merge_on_stays}
use Rattle.node_bundles.proofs.Going.{went_by}
use Rattle.node_bundles.proofs.turning.MergeNodeRingTxRingRxTakesTurn.turn.Goals as goal

pub returns-clause-went : goal.returns-clause-went
returns-clause-went g c =
    went_by MergeLent (λ (n : MergeLent). MergeStands n.merge) MergeOn (λ (a b : MergeLent) bad. MergeMeets a.merge b.merge bad) (λ (n : MergeLent). n.merge.fault) (λ (n : MergeLent). merge_tells n.merge) (λ (n : MergeLent). merge_view n.merge)
    c.args.self.now.merge.credits c.turn.result c.args.self.now c.turn.new.self (record { goes = c.turn.ensures.goes; lent = c.turn.ensures.lent }) c.turn.ensures.stands (merge_on_stays c.args.self.now)
    c.turn.ensures.says c.turn.ensures.tells c.turn.ensures.fault c.turn.ensures.again c.turn.ensures.causes
