use Rattle.std.proofs.Common.{List, ℕ, Option, None}
use Rattle.std.specs.Prelude.{set, get_or}
use Rattle.std.specs.Map.{values_of}
use Rattle.watermarks.specs.Least.{least_mark}
use Rattle.watermarks.specs.Raised.{raised_to}
use Rattle.watermarks.proofs.Lesser.{raised_later}
use Rattle.window_grouper.specs.Waiting.{opened}
use Rattle.window_grouper.proofs.Waiting.{rises, tidy_marked, seen_changed, stands_seen}
use Rattle.window_grouper.proofs.grouper.Grouper.raise.Goals as goal

pub invariant_of-self : goal.invariant_of-self
invariant_of-self c =
    let o = c.self.inside in
    let before = get_or o.marks c.args.capture None in
    let more = rises o.marks c.raise.new.self c.args.capture (raised_to c.args.mark before) o.groups (values_of (opened o.waiting.entries)) c.args.self.now c.self.view_is c.raise.ensures c.requires (raised_later c.args.mark before) in
    tidy_marked (least_mark o.marks) (least_mark c.raise.new.self) o.groups.held (opened o.waiting.entries) more c.self.invariant

pub returns-clause-marks : goal.returns-clause-marks
returns-clause-marks c =
    let o = c.self.inside in
    let before = get_or o.marks c.args.capture None in
    let more = rises o.marks c.raise.new.self c.args.capture (raised_to c.args.mark before) o.groups (values_of (opened o.waiting.entries)) c.args.self.now c.self.view_is c.raise.ensures c.requires (raised_later c.args.mark before) in
    seen_changed o.marks c.raise.new.self (λ (ms : List (Option ℕ)). set ms c.args.capture (raised_to c.args.mark (get_or ms c.args.capture None))) o.groups (values_of (opened o.waiting.entries))
    c.args.self.now c.self.view_is c.raise.ensures more

pub returns-clause-stands : goal.returns-clause-stands
returns-clause-stands c window added given h =
    let o = c.self.inside in
    let before = get_or o.marks c.args.capture None in
    let more = rises o.marks c.raise.new.self c.args.capture (raised_to c.args.mark before) o.groups (values_of (opened o.waiting.entries)) c.args.self.now c.self.view_is c.raise.ensures c.requires (raised_later c.args.mark before) in
    stands_seen o.marks c.raise.new.self o.groups (values_of (opened o.waiting.entries)) c.args.self.now window added given c.self.view_is more h
