-- One round more.
use Rattle.node_bundles.proofs.Going.{went_then}
use Rattle.node_bundles.proofs.Bundled.{all_then}
use Rattle.node_bundles.proofs.bundle.run_bundle.Goals as goal

pub returns-in_default-clause-nodes : goal.returns-in_default-clause-nodes
returns-in_default-clause-nodes g c = all_then g.row.S.Denot c.args.nodes.now.items c.rounds.nodes.items c.round.new.nodes.items c.rounds.invariant.nodes c.round.ensures.nodes

pub returns-in_default-clause-last : goal.returns-in_default-clause-last
returns-in_default-clause-last g c =
    let L = g.L.TakesTurn in
    went_then g.row.L.Denot L.Stands L.Goes L.Meets L.fault L.Tells L.shown g.met.L.TakesTurn.stays g.met.L.TakesTurn.goes_on g.met.L.TakesTurn.tells_on c.args.last.now c.rounds.last c.round.new.last c.rounds.invariant.last c.round.ensures.last

pub returns-then-idle-ge-IDLE_ROUNDS-clause-nodes :
    goal.returns-then-idle-ge-IDLE_ROUNDS-clause-nodes
returns-then-idle-ge-IDLE_ROUNDS-clause-nodes g c = all_then g.row.S.Denot c.args.nodes.now.items c.rounds.nodes.items c.round.new.nodes.items c.rounds.invariant.nodes c.round.ensures.nodes

pub returns-then-idle-ge-IDLE_ROUNDS-clause-last :
    goal.returns-then-idle-ge-IDLE_ROUNDS-clause-last
returns-then-idle-ge-IDLE_ROUNDS-clause-last g c =
    let L = g.L.TakesTurn in
    went_then g.row.L.Denot L.Stands L.Goes L.Meets L.fault L.Tells L.shown g.met.L.TakesTurn.stays g.met.L.TakesTurn.goes_on g.met.L.TakesTurn.tells_on c.args.last.now c.rounds.last c.round.new.last c.rounds.invariant.last c.round.ensures.last

pub rounds-preserved : goal.rounds-preserved
rounds-preserved g c =
    let L = g.L.TakesTurn in
    record {
      nodes = all_then g.row.S.Denot c.args.nodes.now.items c.rounds.nodes.items c.round.new.nodes.items c.rounds.invariant.nodes c.round.ensures.nodes;
      last = went_then g.row.L.Denot L.Stands L.Goes L.Meets L.fault L.Tells L.shown g.met.L.TakesTurn.stays g.met.L.TakesTurn.goes_on g.met.L.TakesTurn.tells_on c.args.last.now c.rounds.last c.round.new.last c.rounds.invariant.last c.round.ensures.last;
    }
