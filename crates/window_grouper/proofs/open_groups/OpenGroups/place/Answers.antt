use Rattle.std.proofs.Common.{◌≡◌, ap, subst}
use Rattle.window_grouper.specs.Open.{Open}
use Rattle.window_grouper.specs.Placing.{shown, placed, HaveBegun}
use Rattle.window_grouper.proofs.GivenOut.{placed_more}
use Rattle.window_grouper.proofs.open_groups.OpenGroups.place.Goals as goal

pub returns-clause-placed : goal.returns-clause-placed
returns-clause-placed c =
    let now : Open = record { window = c.self.inside.window; held = shown c.place.new.groups.items } in
    placed_more c.args.self.now now c.args.s.now (ap (λ (o : Open). o.window) c.self.view_is)
    (subst (λ (o : Open). HaveBegun c.args.s.now.at.time o.held → now.held ≡ placed o.window c.args.s.now o.held) c.self.view_is c.in-Ok.ensures.placed)
