use Rattle.std.proofs.lemmas.Option.{IfSome_then}
use Rattle.ds_base.specs.Copies.{copies_of}
use Rattle.window_grouper.specs.Waiting.{opened}
use Rattle.window_grouper.proofs.Standing.{none_closed, stands_ended}
use Rattle.window_grouper.proofs.Waiting.{if_none_then, if_some_both, next_first, next_stands, next_same, next_settled, next_ended}
use Rattle.window_grouper.proofs.grouper.Grouper.next_closed.Goals as goal

pub returns-clause-first : goal.returns-clause-first
returns-clause-first c =
    let o = c.self.inside in
    IfSome_then c.first_closed.result c.first_closed.ensures.first
    (λ group held. next_first o.marks c.least-least.result o.groups c.place_past.new.groups c.first_closed.new.groups (opened o.waiting.entries) (opened c.place_past.new.waiting.entries) c.args.self.now (copies_of group)
    c.self.view_is c.least-least.ensures.value c.place_past.ensures.kept c.in_ok-place_past.ensures.none c.first_closed.ensures.window held)

pub returns-clause-ended : goal.returns-clause-ended
returns-clause-ended c =
    let o = c.self.inside in
    if_none_then c.first_closed.result _ _
    (λ ended. next_ended o.marks c.least-least.result o.groups c.place_past.new.groups (opened o.waiting.entries) (opened c.place_past.new.waiting.entries) c.args.self.now
    c.self.view_is c.least-least.ensures.value c.place_past.ensures.kept c.in_ok-place_past.ensures.none ended)
    c.first_closed.ensures.ended

pub returns-clause-unchanged : goal.returns-clause-unchanged
returns-clause-unchanged c =
    let o = c.self.inside in
    if_none_then c.first_closed.result _ _
    (λ same. next_same o.marks c.least-least.result o.groups c.place_past.new.groups c.first_closed.new.groups (opened o.waiting.entries) (opened c.place_past.new.waiting.entries) c.args.self.now
    c.self.view_is c.least-least.ensures.value c.place_past.ensures.kept same)
    c.first_closed.ensures.unchanged

pub returns-clause-stands : goal.returns-clause-stands
returns-clause-stands c window added given h =
    let o = c.self.inside in
    if_some_both c.first_closed.result _ _ _
    (λ group held closed. next_stands o.marks c.least-least.result o.groups c.place_past.new.groups c.first_closed.new.groups (opened o.waiting.entries) (opened c.place_past.new.waiting.entries) c.args.self.now (copies_of group)
    window added given c.self.view_is c.least-least.ensures.value c.place_past.ensures.kept c.in_ok-place_past.ensures.none c.first_closed.ensures.window held closed h)
    c.first_closed.ensures.first c.first_closed.ensures.closed

pub returns-clause-none : goal.returns-clause-none
returns-clause-none c window added given h =
    let o = c.self.inside in
    if_none_then c.first_closed.result _ _
    (λ settled. none_closed c.args.self.now window added given h
    (next_settled o.marks c.least-least.result o.groups c.place_past.new.groups (opened o.waiting.entries) (opened c.place_past.new.waiting.entries) c.args.self.now
    c.self.view_is c.least-least.ensures.value c.place_past.ensures.kept c.in_ok-place_past.ensures.none settled))
    c.first_closed.ensures.settled

pub returns-clause-all : goal.returns-clause-all
returns-clause-all c window added given h all =
    let o = c.self.inside in
    if_none_then c.first_closed.result _ _
    (λ ended. stands_ended c.args.self.now window added given h all
    (next_ended o.marks c.least-least.result o.groups c.place_past.new.groups (opened o.waiting.entries) (opened c.place_past.new.waiting.entries) c.args.self.now
    c.self.view_is c.least-least.ensures.value c.place_past.ensures.kept c.in_ok-place_past.ensures.none ended all))
    c.first_closed.ensures.ended
