-- A look at a link out leaves all that the grouper keeps as it was.
use Rattle.std.proofs.Common.{◌<◌, length, sym, ap, ◌∙◌, subst}
use Rattle.net_law.specs.Groupers.{GrouperSeen}
use Rattle.grouper_node.specs.Works.{WorkSeen, grouper_of}
use Rattle.grouper_node.proofs.Looking.{looked_out}
use Rattle.grouper_node.proofs.node.GrouperNodeRingTxRingRxLendsOut.beside.Goals as goal

pub invariant_of-self : goal.invariant_of-self
invariant_of-self c =
    looked_out c.self.inside.work c.beside.new.self c.args.link (subst (λ (s : GrouperSeen). c.args.link < length s.outs.links) (sym c.self.view_is) c.requires.there)
    c.beside.ensures.looks c.self.inside.fault c.self.invariant

pub returns-clause-lends : goal.returns-clause-lends
returns-clause-lends c = (
  ap (λ (w : WorkSeen). grouper_of w c.self.inside.fault) c.beside.ensures.looks.rest ∙ ap (λ (s : GrouperSeen). record s { outs = c.beside.new.self.outs }) c.self.view_is,
  (invariant_of-self c).stands,
)
