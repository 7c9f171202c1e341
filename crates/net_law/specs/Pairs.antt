-- Ends of a pipeline that stand.
use Rattle.credit_link.specs.Ends.{TxSeen, RxSeen, TxStands, RxStands}
use Rattle.credit_link.specs.Frames.{IsCounted}
use Rattle.net_law.specs.Nets.{Net, NetStands, EachPair}

-- both ends of a link stand, and their frames are counted
pub record ArePair (tx : TxSeen) (rx : RxSeen) : Type 0 where
  pub sending : TxStands tx
  pub receiving : RxStands rx
  pub counted : IsCounted tx.offered

-- whatever faults the nodes met
abbrev pub EachStands : Type 0
EachStands = (net : Net) → NetStands net → EachPair ArePair net
