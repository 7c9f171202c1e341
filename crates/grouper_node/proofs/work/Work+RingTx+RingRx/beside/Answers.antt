-- The link out was shown its rings.
use Rattle.std.proofs.Common.{subst}
use Rattle.node_lanes.specs.Lending.{ShowsOut}
use Rattle.grouper_node.specs.Works.{WorkSeen}
use Rattle.grouper_node.proofs.work.Work+RingTx+RingRx.beside.Goals as goal

pub returns-clause-shown : goal.returns-clause-shown
returns-clause-shown c =
    let e = c.beside.ensures in
    subst (λ (s : WorkSeen). ShowsOut s.outs c.beside.new.self c.args.link c.args.rx.now c.beside.new.rx) c.self.view_is (record { links = e.links; queues = e.queues; shows = e.shows })
