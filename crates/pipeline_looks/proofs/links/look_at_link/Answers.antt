-- The sender that was lent is the item of the list.
use Rattle.std.proofs.Common.{sym, subst, get_or}
use Rattle.std.proofs.lemmas.Option.{get_or_from_slice_get}
use Rattle.node_lanes.specs.Lending.{ShowsOut}
use Rattle.pipeline_looks.proofs.Showing.{at_set}
use Rattle.pipeline_looks.proofs.links.look_at_link.Goals as goal

pub returns-clause-shown : goal.returns-clause-shown
returns-clause-shown g c s e =
    let items = c.args.senders.now.items in
    let i = c.args.i in
    let outs = g.S.LendsOut.outs in
    let r = get_or (g.N.LooksIn.ins c.args.node.now) c.args.j e in
    let r' = get_or (g.N.LooksIn.ins c.look_at.new.self) c.args.j e in
    subst (λ x. ShowsOut (outs x) (outs (Rattle.std.proofs.Common.get_or (Rattle.std.proofs.Common.set items i c.look_at.new.sender) i s)) c.args.link r r')
    (sym (get_or_from_slice_get items i c.get_mut.result.now s c.get_mut.ensures.value))
    (subst (λ x. ShowsOut (outs c.get_mut.result.now) (outs x) c.args.link r r') (sym (at_set items i c.look_at.new.sender s c.requires.there.1)) (c.look_at.ensures.shown e))
