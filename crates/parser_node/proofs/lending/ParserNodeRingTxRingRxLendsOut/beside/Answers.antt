-- A look changes the ends of one link, and of these only what they know of its rings.
use Rattle.std.proofs.Common.{subst}
use Rattle.node_lanes.specs.Lending.{ShowsOut}
use Rattle.net_law.specs.Parsers.{ParserSeen}
use Rattle.parser_steps.specs.Seen.{seen_of}
use Rattle.parser_steps.proofs.Moved.{moved_holds}
use Rattle.parser_node.specs.Turning.{ChangesOuts}
use Rattle.parser_node.proofs.Shown.{shown_stand, shown_goes, shown_put, shown_quiet, changes_outs}
use Rattle.parser_node.proofs.lending.ParserNodeRingTxRingRxLendsOut.beside.Goals as goal

pub invariant_of-self : goal.invariant_of-self
invariant_of-self g c =
    let i = c.self.inside in
    let e = c.beside.ensures in
    let shows : ShowsOut i.out c.beside.new.self c.args.link c.args.rx.now c.beside.new.rx = record { links = e.links; queues = e.queues; shows = e.shows } in
    moved_holds i.steps i.out c.beside.new.self i.fault i.fault c.self.invariant (shown_stand i.out c.beside.new.self c.args.link c.args.rx.now c.beside.new.rx shows e.holds)
    (shown_goes i.out c.beside.new.self c.args.link c.args.rx.now c.beside.new.rx shows) (shown_put i.out c.beside.new.self c.args.link c.args.rx.now c.beside.new.rx shows) (λ none. none)
    (λ none. shown_quiet i.out c.beside.new.self c.args.link c.args.rx.now c.beside.new.rx shows (c.self.invariant.stands.quiet none).1)

pub returns-clause-lends : goal.returns-clause-lends
returns-clause-lends g c =
    let i = c.self.inside in
    let e = c.beside.ensures in
    let shows : ShowsOut i.out c.beside.new.self c.args.link c.args.rx.now c.beside.new.rx = record { links = e.links; queues = e.queues; shows = e.shows } in
    subst (λ (s : ParserSeen). ChangesOuts s (seen_of i.steps c.beside.new.self i.fault)) c.self.view_is
    (changes_outs i.out c.beside.new.self c.args.link c.args.rx.now c.beside.new.rx shows i.steps i.fault (invariant_of-self g c))
