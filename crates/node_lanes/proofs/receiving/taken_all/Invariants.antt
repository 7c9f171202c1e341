-- On the links so far all was taken.
use Rattle.std.proofs.Common.{◌<◌, ℕ, get_or}
use Rattle.credit_link.specs.Ends.{RxSeen}
use Rattle.round_law.specs.Links.{HasTakenAll}
use Rattle.round_law.specs.Views.{receiver_view}
use Rattle.node_lanes.proofs.receiving.taken_all.Given as goal

abbrev pub invariant-links : goal.invariant-links
invariant-links g l = (j : ℕ) (d : RxSeen) → j < l.j → HasTakenAll (receiver_view (get_or l.ins.items j d))
