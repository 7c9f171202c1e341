use Rattle.std.proofs.Common.{ℕ, ◌≡◌, ◌<◌, ◌+◌, ◌%◌, ◌^◌, ◌∙◌, Some, refl, sym, ap, subst, arith, length}
use Rattle.std.specs.Prelude.{slice_get, slice_set}
use Rattle.std.proofs.lemmas.Result.{on_ok_weaker}
use Rattle.std.proofs.lemmas.List.{length-map}
use Rattle.ds_base.specs.Copies.{copies_of}
use Rattle.window_grouper.specs.Newest.{Puts}
use Rattle.window_grouper.specs.Placing.{shown, with_member, slot_of}
use Rattle.window_grouper.proofs.Placed.{placed_within, placed_alone}
use Rattle.window_grouper.proofs.Sound.{by_result, sound_within, sound_alone, sound_kept}
use Rattle.window_grouper.proofs.Steps.{takes_within, takes_not}
use Rattle.window_grouper.proofs.placing.place.Goals as goal

pub returns-in-Some-clause-sound : goal.returns-in-Some-clause-sound
returns-in-Some-clause-sound c =
    let gs = shown c.args.groups.now.items in
    let near = c.in-Some.ensures.near in
    let there = c.requires.index c.args.s.now.key near.0 near.1 in
    let at : slice_get gs c.in-Some.place ≡ Some there.0 = subst (λ (n : ℕ). slice_get gs n ≡ Some there.0) near.2 there.1 in
    by_result c.join.result c.join.ensures.joined c.join.ensures.kept
    (λ joined. sound_within c.args.window c.args.given c.args.newest.now gs (shown c.join.new.groups.items) c.in-Some.place there.0 c.args.s.now
    c.requires at (joined there.0 at))
    (λ kept. sound_kept c.args.window c.args.given c.args.newest.now c.args.newest.now gs (shown c.join.new.groups.items) c.requires (λ _. refl) kept)

pub returns-in-Some-clause-placed : goal.returns-in-Some-clause-placed
returns-in-Some-clause-placed c =
    let gs = shown c.args.groups.now.items in
    let slots = slot_of c.args.given c.args.newest.now in
    let near = c.in-Some.ensures.near in
    let b = near.0 in
    let there = c.requires.index c.args.s.now.key b near.1 in
    let at : slice_get gs c.in-Some.place ≡ Some there.0 = subst (λ (n : ℕ). slice_get gs n ≡ Some there.0) near.2 there.1 in
    on_ok_weaker c.join.result
    (λ joined begun. joined there.0 at ∙ ap (λ (n : ℕ). slice_set gs n (with_member there.0 c.args.s.now)) (sym near.2)
    ∙ placed_within c.args.window c.args.s.now slots gs b there.0 c.requires.index c.requires.last begun near.1 there.1
    (takes_within c.args.window slots gs c.args.s.now b there.0 c.requires.index near.1 there.1 near.3))
    c.join.ensures.joined

pub returns-in-None-clause-sound : goal.returns-in-None-clause-sound
returns-in-None-clause-sound c =
    let gs = shown c.args.groups.now.items in
    let hs = shown c.begin.new.groups.items in
    let long : length c.args.groups.now.items ≡ length gs = sym (length-map c.args.groups.now.items copies_of) in
    let short : length gs < 2 ^ 64 = omega (arith, c.args.groups.now.ok.0, c.args.groups.now.small) in
    by_result c.begin.result c.begin.ensures.begun c.begin.ensures.kept
    (λ begun. sound_alone c.args.window c.args.given c.args.newest.now c.begin.new.newest gs hs c.args.s.now c.requires
    c.ranges.given.fits short
    (subst (λ (n : ℕ). Puts c.args.newest.now c.begin.new.newest c.args.s.now.key (record { number = (c.args.given + n) % 2 ^ 64; time = c.args.s.now.at.time })) long begun.1)
    c.in-None.ensures.past begun.0)
    (λ kept. sound_kept c.args.window c.args.given c.args.newest.now c.begin.new.newest gs hs c.requires kept.1 kept.0)

pub returns-in-None-clause-placed : goal.returns-in-None-clause-placed
returns-in-None-clause-placed c =
    let gs = shown c.args.groups.now.items in
    let slots = slot_of c.args.given c.args.newest.now in
    on_ok_weaker c.begin.result
    (λ new begun. new.0 ∙ placed_alone c.args.window c.args.s.now slots gs c.requires.index c.requires.last begun
    (takes_not c.args.window slots gs c.args.s.now c.requires.index c.in-None.ensures.past))
    c.begin.ensures.begun
