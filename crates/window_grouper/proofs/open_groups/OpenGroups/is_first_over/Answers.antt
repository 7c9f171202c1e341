use Rattle.std.proofs.Common.{◌≡◌, Some, refl}
use Rattle.std.specs.Prelude.{slice_get}
use Rattle.std.proofs.lemmas.Option.{slice_get_read}
use Rattle.ds_base.specs.Copies.{copies_of}
use Rattle.window_grouper.specs.Placing.{shown}
use Rattle.window_grouper.proofs.Sound.{sound_filled}
use Rattle.window_grouper.proofs.Steps.{shown_at}
use Rattle.window_grouper.proofs.open_groups.OpenGroups.is_first_over.Goals as goal

pub get-first-requires : goal.get-first-requires
get-first-requires c =
    let o = c.self.inside in
    let group = c.in-Some.group.now in
    let at : slice_get o.groups.items 0 ≡ Some group =
    slice_get_read o.groups.items o.groups.len 0 group o.groups.ok.0 (c.in-Some.ensures.variant.0 refl) c.in-Some.ensures.lookup in
    sound_filled o.window o.given o.newest (shown o.groups.items) 0 (copies_of group) c.self.invariant (shown_at o.groups.items 0 group at)
