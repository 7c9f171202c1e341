-- The poll of the shuffle, seen as a node sees it.
use Rattle.node_lanes.proofs.Listed.{puts_same}
use Rattle.node_lanes.proofs.Polled.{goes_by, stand_by, polled_goes, polled_quiet, polled_calm, polled_no_less, polled_passes, failed_goes, failed_meets}
use Rattle.node_lanes.proofs.sending.poll_outs.Goals as goal

pub returns-in-Ok-clause-goes : goal.returns-in-Ok-clause-goes
returns-in-Ok-clause-goes g c =
    let e = c.in-Ok.ensures in
    let p = e.polls in
    goes_by c.args.outs.now c.poll.new.self e.as_many (polled_goes c.args.outs.now c.poll.new.self e.as_many c.args.cut c.poll.new.needs p.0 p.1 p.2) e.all_put

pub returns-in-Ok-clause-stand : goal.returns-in-Ok-clause-stand
returns-in-Ok-clause-stand g c = stand_by c.args.outs.now c.poll.new.self c.in-Ok.ensures.as_many c.in-Ok.ensures.holds (returns-in-Ok-clause-goes g c)

pub returns-in-Ok-clause-put : goal.returns-in-Ok-clause-put
returns-in-Ok-clause-put g c = puts_same c.args.outs.now c.poll.new.self c.in-Ok.ensures.as_many c.in-Ok.ensures.all_put

pub returns-in-Ok-clause-quiet : goal.returns-in-Ok-clause-quiet
returns-in-Ok-clause-quiet g c =
    let e = c.in-Ok.ensures in
    let p = e.polls in
    polled_quiet c.args.outs.now c.poll.new.self e.as_many c.args.cut c.poll.new.needs p.0 p.1 p.2

pub returns-in-Ok-clause-calm : goal.returns-in-Ok-clause-calm
returns-in-Ok-clause-calm g c =
    let e = c.in-Ok.ensures in
    let p = e.polls in
    polled_calm c.args.outs.now c.poll.new.self e.as_many c.args.cut c.poll.new.needs p.0 p.1 p.2

pub returns-in-Ok-clause-passes : goal.returns-in-Ok-clause-passes
returns-in-Ok-clause-passes g c =
    let e = c.in-Ok.ensures in
    let p = e.polls in
    polled_passes c.args.outs.now c.poll.new.self e.as_many c.args.cut c.poll.new.needs p.0 p.1 p.2 c.requires.1

pub returns-in-Ok-clause-no_less : goal.returns-in-Ok-clause-no_less
returns-in-Ok-clause-no_less g c =
    let e = c.in-Ok.ensures in
    let p = e.polls in
    polled_no_less c.args.outs.now c.poll.new.self e.as_many c.args.cut c.poll.new.needs p.0 p.1 p.2

pub returns-in-Err-clause-goes : goal.returns-in-Err-clause-goes
returns-in-Err-clause-goes g c =
    let e = c.in-Err.ensures in
    goes_by c.args.outs.now c.poll.new.self e.as_many (failed_goes c.args.outs.now c.poll.new.self e.as_many c.args.cut c.in-Err.fault e.fails) e.all_put

pub returns-in-Err-clause-stand : goal.returns-in-Err-clause-stand
returns-in-Err-clause-stand g c = stand_by c.args.outs.now c.poll.new.self c.in-Err.ensures.as_many c.in-Err.ensures.holds (returns-in-Err-clause-goes g c)

pub returns-in-Err-clause-put : goal.returns-in-Err-clause-put
returns-in-Err-clause-put g c = puts_same c.args.outs.now c.poll.new.self c.in-Err.ensures.as_many c.in-Err.ensures.all_put

pub returns-in-Err-clause-meets : goal.returns-in-Err-clause-meets
returns-in-Err-clause-meets g c = failed_meets c.args.outs.now c.poll.new.self c.in-Err.ensures.as_many c.args.cut c.in-Err.fault c.in-Err.ensures.fails c.args.first
