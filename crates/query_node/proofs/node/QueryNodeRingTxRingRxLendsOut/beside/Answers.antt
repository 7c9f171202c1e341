-- A look at the link out leaves all that the processor keeps as it was.
use Rattle.std.proofs.Common.{◌<◌, length, sym, ap, ◌∙◌, subst}
use Rattle.net_law.specs.Processors.{ProcessorSeen}
use Rattle.query_node.specs.Works.{WorkSeen, processor_of}
use Rattle.query_node.proofs.Looking.{looked_out}
use Rattle.query_node.proofs.node.QueryNodeRingTxRingRxLendsOut.beside.Goals as goal

pub invariant_of-self : goal.invariant_of-self
invariant_of-self c =
    looked_out c.self.inside.work c.beside.new.self c.args.link (subst (λ (s : ProcessorSeen). c.args.link < length s.outs.links) (sym c.self.view_is) c.requires.there) c.self.invariant.stands.one_out
    c.beside.ensures.looks c.self.inside.fault c.self.invariant

pub returns-clause-lends : goal.returns-clause-lends
returns-clause-lends c = (
  ap (λ (w : WorkSeen). processor_of w c.self.inside.fault) c.beside.ensures.looks.rest ∙ ap (λ (s : ProcessorSeen). record s { outs = c.beside.new.self.outs }) c.self.view_is,
  (invariant_of-self c).stands,
)
