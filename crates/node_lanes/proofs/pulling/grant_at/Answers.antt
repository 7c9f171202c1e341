-- The grant of one link, seen over all.
use Rattle.std.proofs.Common.{get_or}
use Rattle.node_lanes.proofs.Pulled.{grant_goes, changed_goes, changed_stand}
use Rattle.node_lanes.proofs.pulling.grant_at.Goals as goal

pub returns-clause-changes : goal.returns-clause-changes
returns-clause-changes g c = record { long = c.grant_link.ensures.long; set = c.grant_link.ensures.set }

pub returns-clause-goes : goal.returns-clause-goes
returns-clause-goes g c =
    changed_goes c.args.ins.now.items c.grant_link.new.ins.items c.args.j (returns-clause-changes g c)
    (λ d. grant_goes (get_or c.args.ins.now.items c.args.j d) (get_or c.grant_link.new.ins.items c.args.j d) _ _ (c.grant_link.ensures.grants d))

pub returns-clause-stand : goal.returns-clause-stand
returns-clause-stand g c =
    changed_stand c.args.ins.now.items c.grant_link.new.ins.items c.args.j (returns-clause-changes g c)
    (λ d. grant_goes (get_or c.args.ins.now.items c.args.j d) (get_or c.grant_link.new.ins.items c.args.j d) _ _ (c.grant_link.ensures.grants d)) c.grant_link.ensures.stands
