-- One link more is pumped, or fails.
use Rattle.std.proofs.Common.{arith}
use Rattle.node_lanes.proofs.Pumped.{begins, goes_on, keeps_far, keeps_on, kept, kept_goes, kept_stand, kept_given, all_quiet, all_calm, all_no_less, all_passes, failed}
use Rattle.node_lanes.proofs.receiving.pump_ins.Goals as goal

pub links-init : goal.links-init
links-init g c = begins c.args.ins.now.items c.args.cut c.new-counts.result.items c.new-counts.ensures

pub links-preserved : goal.links-preserved
links-preserved g c =
    let e = c.in-Ok.ensures in
    goes_on c.args.ins.now.items c.links.ins.items c.pump_at.new.ins.items c.args.cut c.links.j c.in-Ok.count c.links.counts.items c.and-counts.result.items c.links.moved c.has_moved-moved.result
    c.links.invariant (omega (arith, c.links-test.true, c.len-j-end.ensures)) e.long e.set (λ d. record { pumps = e.moved d; keeps = e.kept d; stands = e.stands d; quiet = e.fault d }) c.and-counts.ensures c.has_moved-moved.ensures

pub returns-in-Err-clause-stand : goal.returns-in-Err-clause-stand
returns-in-Err-clause-stand g c =
    kept_stand c.args.ins.now.items c.pump_at.new.ins.items
    (keeps_on c.args.ins.now.items c.links.ins.items c.pump_at.new.ins.items c.links.j (keeps_far c.args.ins.now.items c.links.ins.items c.args.cut c.links.j c.links.counts.items c.links.moved c.links.invariant)
    (omega (arith, c.links-test.true, c.len-j-end.ensures)) c.in-Err.ensures.long c.in-Err.ensures.set (λ d. c.links.invariant.rest c.links.j d (omega arith)) c.in-Err.ensures.kept c.in-Err.ensures.stands)

pub returns-in-Err-clause-goes : goal.returns-in-Err-clause-goes
returns-in-Err-clause-goes g c =
    kept_goes c.args.ins.now.items c.pump_at.new.ins.items
    (keeps_on c.args.ins.now.items c.links.ins.items c.pump_at.new.ins.items c.links.j (keeps_far c.args.ins.now.items c.links.ins.items c.args.cut c.links.j c.links.counts.items c.links.moved c.links.invariant)
    (omega (arith, c.links-test.true, c.len-j-end.ensures)) c.in-Err.ensures.long c.in-Err.ensures.set (λ d. c.links.invariant.rest c.links.j d (omega arith)) c.in-Err.ensures.kept c.in-Err.ensures.stands)

pub returns-in-Err-clause-keeps : goal.returns-in-Err-clause-keeps
returns-in-Err-clause-keeps g c =
    kept c.args.ins.now.items c.pump_at.new.ins.items
    (keeps_on c.args.ins.now.items c.links.ins.items c.pump_at.new.ins.items c.links.j (keeps_far c.args.ins.now.items c.links.ins.items c.args.cut c.links.j c.links.counts.items c.links.moved c.links.invariant)
    (omega (arith, c.links-test.true, c.len-j-end.ensures)) c.in-Err.ensures.long c.in-Err.ensures.set (λ d. c.links.invariant.rest c.links.j d (omega arith)) c.in-Err.ensures.kept c.in-Err.ensures.stands)

pub returns-in-Err-clause-given : goal.returns-in-Err-clause-given
returns-in-Err-clause-given g c =
    kept_given c.args.ins.now.items c.pump_at.new.ins.items
    (keeps_on c.args.ins.now.items c.links.ins.items c.pump_at.new.ins.items c.links.j (keeps_far c.args.ins.now.items c.links.ins.items c.args.cut c.links.j c.links.counts.items c.links.moved c.links.invariant)
    (omega (arith, c.links-test.true, c.len-j-end.ensures)) c.in-Err.ensures.long c.in-Err.ensures.set (λ d. c.links.invariant.rest c.links.j d (omega arith)) c.in-Err.ensures.kept c.in-Err.ensures.stands)

pub returns-in-Err-clause-meets : goal.returns-in-Err-clause-meets
returns-in-Err-clause-meets g c =
    failed c.args.ins.now.items c.links.ins.items c.pump_at.new.ins.items c.links.j c.in-Err.bad (omega (arith, c.links-test.true, c.len-j-end.ensures)) (λ d. c.links.invariant.rest c.links.j d (omega arith)) c.in-Err.ensures.failed

pub returns-clause-stand : goal.returns-clause-stand
returns-clause-stand g c = kept_stand c.args.ins.now.items c.links.ins.items (keeps_far c.args.ins.now.items c.links.ins.items c.args.cut c.links.j c.links.counts.items c.links.moved c.links.invariant)

pub returns-clause-goes : goal.returns-clause-goes
returns-clause-goes g c = kept_goes c.args.ins.now.items c.links.ins.items (keeps_far c.args.ins.now.items c.links.ins.items c.args.cut c.links.j c.links.counts.items c.links.moved c.links.invariant)

pub returns-clause-keeps : goal.returns-clause-keeps
returns-clause-keeps g c = kept c.args.ins.now.items c.links.ins.items (keeps_far c.args.ins.now.items c.links.ins.items c.args.cut c.links.j c.links.counts.items c.links.moved c.links.invariant)

pub returns-clause-given : goal.returns-clause-given
returns-clause-given g c = kept_given c.args.ins.now.items c.links.ins.items (keeps_far c.args.ins.now.items c.links.ins.items c.args.cut c.links.j c.links.counts.items c.links.moved c.links.invariant)

pub returns-clause-quiet : goal.returns-clause-quiet
returns-clause-quiet g c = all_quiet c.args.ins.now.items c.links.ins.items c.args.cut c.links.j c.links.counts.items c.links.moved c.links.invariant (omega (arith, c.links-test.false, c.len-j-end.ensures))

pub returns-clause-calm : goal.returns-clause-calm
returns-clause-calm g c = all_calm c.args.ins.now.items c.links.ins.items c.args.cut c.links.j c.links.counts.items c.links.moved c.links.invariant (omega (arith, c.links-test.false, c.len-j-end.ensures))

pub returns-clause-passes : goal.returns-clause-passes
returns-clause-passes g c = all_passes c.args.ins.now.items c.links.ins.items c.args.cut c.links.j c.links.counts.items c.links.moved c.links.invariant (omega (arith, c.links-test.false, c.len-j-end.ensures)) c.requires.1

pub returns-clause-no_less : goal.returns-clause-no_less
returns-clause-no_less g c = all_no_less c.args.ins.now.items c.links.ins.items c.args.cut c.links.j c.links.counts.items c.links.moved c.links.invariant (omega (arith, c.links-test.false, c.len-j-end.ensures))
