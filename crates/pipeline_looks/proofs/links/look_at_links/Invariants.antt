-- The links so far were looked at, and the others are as they were.
use Rattle.pipeline_looks.specs.Links.{ShowsLinks}
use Rattle.pipeline_looks.proofs.links.look_at_links.Given as goal

abbrev pub invariant-senders : goal.invariant-senders
invariant-senders g l =
    g.N.LooksIn.Looked l.initial.node l.node
    × ShowsLinks g.row.S.Denot g.S.LendsOut.outs g.S.LendsOut.Lends l.first l.link l.i l.initial.senders.items l.senders.items (g.N.LooksIn.ins l.initial.node) (g.N.LooksIn.ins l.node)
