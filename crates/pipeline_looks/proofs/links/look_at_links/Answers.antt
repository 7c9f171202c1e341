-- One more link is looked at.
use Rattle.pipeline_looks.proofs.Showing.{shows_more}
use Rattle.pipeline_looks.proofs.links.look_at_links.Goals as goal

pub senders-preserved : goal.senders-preserved
senders-preserved g c =
    let start = c.args.node.now in
    let e = c.look_at_link.ensures in (
      g.met.N.LooksIn.goes_on start c.senders.node c.look_at_link.new.node c.senders.invariant.0 e.looked,
      shows_more g.row.S.Denot g.S.LendsOut.outs g.S.LendsOut.Lends c.args.first c.args.link c.senders.i c.args.senders.now.items c.senders.senders.items (g.N.LooksIn.ins start) (g.N.LooksIn.ins c.senders.node)
          c.senders.invariant.1 c.look_at_link.new.senders.items (g.N.LooksIn.ins c.look_at_link.new.node) e.long e.set e.changes e.lends e.shown,
    )
