-- A look at a link in leaves all that the grouper keeps as it was.
use Rattle.std.proofs.Common.{◌<◌, length, get_or, sym, subst}
use Rattle.credit_link.specs.Ends.{RxSeen}
use Rattle.node_lanes.specs.Lending.{ShowsOut}
use Rattle.net_law.specs.Groupers.{GrouperSeen}
use Rattle.grouper_node.proofs.Looking.{looked_in}
use Rattle.grouper_node.proofs.node.GrouperNode+RingTx+RingRx.look_in.Goals as goal

pub invariant_of-self : goal.invariant_of-self
invariant_of-self g c =
    looked_in c.self.inside.work c.look_in.new.self c.args.j (subst (λ (s : GrouperSeen). c.args.j < length s.ins) (sym c.self.view_is) c.requires.there.0) c.look_in.ensures.looks c.self.inside.fault c.self.invariant

pub returns-clause-shown : goal.returns-clause-shown
returns-clause-shown g c =
    subst (λ (s : GrouperSeen). (e : RxSeen) → ShowsOut (g.S.LendsOut.outs c.args.sender.now) (g.S.LendsOut.outs c.look_in.new.sender) c.args.link (get_or s.ins c.args.j e) (get_or c.look_in.new.self.ins c.args.j e)) c.self.view_is c.look_in.ensures.shown

pub returns-clause-stands : goal.returns-clause-stands
returns-clause-stands g c = (invariant_of-self g c).stands
