use Rattle.std.proofs.Common.{◌++◌, ◌∷◌, [], ◌∙◌, ap, sym, subst}
use Rattle.std.specs.Map.{values_of}
use Rattle.watermarks.specs.Least.{least_mark}
use Rattle.window_grouper.specs.Grouping.{Grouping, StandsFor, with_summary}
use Rattle.window_grouper.specs.Waiting.{opened}
use Rattle.window_grouper.proofs.Standing.{stands_added}
use Rattle.window_grouper.proofs.Waiting.{boxed, comes_apart, tidy_added, seen_added}
use Rattle.window_grouper.proofs.grouper.Grouper.add.Goals as goal

pub invariant_of-self-2 : goal.invariant_of-self-2
invariant_of-self-2 c =
    let o = c.self.inside in
    let in_box = boxed o.waiting.entries c.insert.new.self.entries c.args.s c.in-Ok.held c.in-Ok.ensures.ok c.in-Ok-insert.ensures.entries in
    let own = comes_apart o.marks o.groups (values_of (opened o.waiting.entries)) c.args.s c.args.self.now c.self.view_is c.requires.may c.requires.apart in
    tidy_added (least_mark o.marks) o.groups.held (opened o.waiting.entries) (opened c.insert.new.self.entries) c.args.s own.0 own.1 in_box c.self.invariant

pub returns-clause-added : goal.returns-clause-added
returns-clause-added c =
    let o = c.self.inside in
    let in_box = boxed o.waiting.entries c.insert.new.self.entries c.args.s c.in-Ok.held c.in-Ok.ensures.ok c.in-Ok-insert.ensures.entries in
    let own = comes_apart o.marks o.groups (values_of (opened o.waiting.entries)) c.args.s c.args.self.now c.self.view_is c.requires.may c.requires.apart in
    seen_added o.marks o.groups (opened o.waiting.entries) (opened c.insert.new.self.entries) c.args.s own.0 c.self.invariant.stamped own.1 in_box
    ∙ ap (with_summary c.args.s) c.self.view_is

pub returns-clause-stands : goal.returns-clause-stands
returns-clause-stands c window added given h differ =
    let o = c.self.inside in
    let in_box = boxed o.waiting.entries c.insert.new.self.entries c.args.s c.in-Ok.held c.in-Ok.ensures.ok c.in-Ok-insert.ensures.entries in
    let own = comes_apart o.marks o.groups (values_of (opened o.waiting.entries)) c.args.s c.args.self.now c.self.view_is c.requires.may c.requires.apart in
    subst (λ (n : Grouping). StandsFor n window (added ++ c.args.s ∷ []) given)
    (sym (seen_added o.marks o.groups (opened o.waiting.entries) (opened c.insert.new.self.entries) c.args.s own.0 c.self.invariant.stamped own.1 in_box
    ∙ ap (with_summary c.args.s) c.self.view_is))
    (stands_added c.args.self.now c.args.s window added given c.requires.may h differ)
