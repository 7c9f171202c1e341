use Rattle.std.proofs.Common.{◌≡◌, ◌∙◌, ap, sym, subst, true, false}
use Rattle.ds_base.specs.declared.summary.Summary.{Summary}
use Rattle.watermarks.specs.Least.{under}
use Rattle.window_grouper.specs.Placing.{HaveBegun, placed}
use Rattle.window_grouper.specs.Waiting.{opened}
use Rattle.window_grouper.proofs.Waiting.{kept_placed, none_past, opened-first, popped}
use Rattle.window_grouper.proofs.grouper.place_first.Goals as goal

pub returns-then-is_under-clause-kept : goal.returns-then-is_under-clause-kept
returns-then-is_under-clause-kept c =
    let b = c.in-Some.held.now in
    let es = c.args.waiting.now.entries in
    let fs = c.pop_first.new.self.entries in
    let own : c.as_ref-s.result.now ≡ b.value = c.as_ref-s.ensures in
    let past : under c.args.least b.value.at.time ≡ true =
    ap (λ (x : Summary). under c.args.least x.at.time) (sym own) ∙ sym c.is_under.ensures ∙ c.if-is_under.true in
    kept_placed c.args.least c.args.groups.now c.place.new.self _ b.value (opened es) (opened fs)
    (popped c.pop_first.result es fs _ b c.pop_first.ensures.variant c.pop_first.ensures.removal c.in-Some.ensures.first)
    past c.place.ensures.window
    (subst (λ (x : Summary). HaveBegun x.at.time c.args.groups.now.held → c.place.new.self.held ≡ placed c.args.groups.now.window x c.args.groups.now.held) own
    c.in_ok-place.ensures.grown)
    c.requires

pub returns-clause-none : goal.returns-clause-none
returns-clause-none c = λ no.
    let b = c.in-Some.held.now in
    let es = c.args.waiting.now.entries in
    let late : under c.args.least b.value.at.time ≡ false =
    ap (λ (x : Summary). under c.args.least x.at.time) (sym c.as_ref-s.ensures) ∙ sym c.is_under.ensures ∙ c.if-is_under.false in
    none_past c.args.least (opened es) _ b.value (opened-first es _ b c.in-Some.ensures.first) late
