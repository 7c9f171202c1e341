-- The pull of one link, seen over all.
use Rattle.node_lanes.proofs.Pulled.{pulls_ok, pulls_err, pull_goes, changed_goes, changed_stand}
use Rattle.std.proofs.Common.{get_or, Ok, Err}
use Rattle.node_lanes.proofs.pulling.pull_at.Goals as goal

pub returns-in-Ok-clause-changes : goal.returns-in-Ok-clause-changes
returns-in-Ok-clause-changes g c = record { long = c.in-Ok.ensures.long; set = c.in-Ok.ensures.set }

pub returns-in-Ok-clause-pulls : goal.returns-in-Ok-clause-pulls
returns-in-Ok-clause-pulls g c d = pulls_ok c.args.j (get_or c.args.ins.now.items c.args.j d) (get_or c.pull_link.new.ins.items c.args.j d) c.in-Ok.pulled (c.in-Ok.ensures.answers d) (c.in-Ok.ensures.pipes d)

pub returns-in-Ok-clause-goes : goal.returns-in-Ok-clause-goes
returns-in-Ok-clause-goes g c =
    let e = c.in-Ok.ensures in
    changed_goes c.args.ins.now.items c.pull_link.new.ins.items c.args.j (returns-in-Ok-clause-changes g c)
    (λ d. pull_goes (get_or c.args.ins.now.items c.args.j d) (get_or c.pull_link.new.ins.items c.args.j d) (Ok c.in-Ok.pulled) (e.answers d) (e.pipes d))

pub returns-in-Ok-clause-stand : goal.returns-in-Ok-clause-stand
returns-in-Ok-clause-stand g c =
    let e = c.in-Ok.ensures in
    changed_stand c.args.ins.now.items c.pull_link.new.ins.items c.args.j (returns-in-Ok-clause-changes g c)
    (λ d. pull_goes (get_or c.args.ins.now.items c.args.j d) (get_or c.pull_link.new.ins.items c.args.j d) (Ok c.in-Ok.pulled) (e.answers d) (e.pipes d)) e.stands

pub returns-in-Err-clause-changes : goal.returns-in-Err-clause-changes
returns-in-Err-clause-changes g c = record { long = c.in-Err.ensures.long; set = c.in-Err.ensures.set }

pub returns-in-Err-clause-pulls : goal.returns-in-Err-clause-pulls
returns-in-Err-clause-pulls g c d = pulls_err c.args.j (get_or c.args.ins.now.items c.args.j d) (get_or c.pull_link.new.ins.items c.args.j d) c.in-Err.bad (c.in-Err.ensures.answers d) (c.in-Err.ensures.pipes d)

pub returns-in-Err-clause-goes : goal.returns-in-Err-clause-goes
returns-in-Err-clause-goes g c =
    let e = c.in-Err.ensures in
    changed_goes c.args.ins.now.items c.pull_link.new.ins.items c.args.j (returns-in-Err-clause-changes g c)
    (λ d. pull_goes (get_or c.args.ins.now.items c.args.j d) (get_or c.pull_link.new.ins.items c.args.j d) (Err c.in-Err.bad) (e.answers d) (e.pipes d))

pub returns-in-Err-clause-stand : goal.returns-in-Err-clause-stand
returns-in-Err-clause-stand g c =
    let e = c.in-Err.ensures in
    changed_stand c.args.ins.now.items c.pull_link.new.ins.items c.args.j (returns-in-Err-clause-changes g c)
    (λ d. pull_goes (get_or c.args.ins.now.items c.args.j d) (get_or c.pull_link.new.ins.items c.args.j d) (Err c.in-Err.bad) (e.answers d) (e.pipes d)) e.stands
