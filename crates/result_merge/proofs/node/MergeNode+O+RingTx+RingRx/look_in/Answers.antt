-- A look at a link in leaves all that the merge keeps as it was.
use Rattle.std.proofs.Common.{◌≡◌, ◌<◌, length, get_or, sym, subst}
use Rattle.credit_link.specs.Ends.{RxSeen}
use Rattle.node_lanes.specs.Lending.{ShowsOut}
use Rattle.result_merge.specs.Works.{merge_of}
use Rattle.result_merge.specs.Nodes.{MergeLent}
use Rattle.result_merge.proofs.Looking.{looked_in, looked_rest}
use Rattle.result_merge.proofs.node.MergeNode+O+RingTx+RingRx.look_in.Goals as goal

pub invariant_of-self : goal.invariant_of-self
invariant_of-self g c =
    looked_in c.self.inside.work c.look_in.new.self c.args.j (subst (λ (s : MergeLent). c.args.j < length s.merge.ins) (sym c.self.view_is) c.requires.there.0) c.look_in.ensures.looks c.self.inside.fault c.self.invariant

pub returns-clause-rest : goal.returns-clause-rest
returns-clause-rest g c =
    subst (λ (s : MergeLent). merge_of c.look_in.new.self c.self.inside.fault ≡ record s.merge { ins = c.look_in.new.self.ins }) c.self.view_is
    (looked_rest c.self.inside.work c.look_in.new.self c.args.j (subst (λ (s : MergeLent). c.args.j < length s.merge.ins) (sym c.self.view_is) c.requires.there.0) c.look_in.ensures.looks c.self.inside.fault)

pub returns-clause-shown : goal.returns-clause-shown
returns-clause-shown g c =
    subst (λ (s : MergeLent). (e : RxSeen) → ShowsOut (g.S.LendsOut.outs c.args.sender.now) (g.S.LendsOut.outs c.look_in.new.sender) c.args.link (get_or s.merge.ins c.args.j e) (get_or c.look_in.new.self.ins c.args.j e)) c.self.view_is c.look_in.ensures.shown

pub returns-clause-stands : goal.returns-clause-stands
returns-clause-stands g c = (invariant_of-self g c).stands
