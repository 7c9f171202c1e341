use Rattle.std.proofs.Common.{◌≡◌, ◌<◌, ◌∙◌, true, length, sym, subst}
use Rattle.std.specs.Prelude.{IfSome, IfNone, not}
use Rattle.ds_base.specs.Copies.{copies_of}
use Rattle.ds_base.specs.declared.summary.Group.{Group}
use Rattle.window_grouper.specs.Closed.{is_closed}
use Rattle.window_grouper.specs.Grouping.{Grouping, is_past, with_group}
use Rattle.grouper_state.specs.Outgoing.{Outgoing}
use Rattle.grouper_state.specs.Puts.{one_if}
use Rattle.grouper_state.specs.States.{StateIs}
use Rattle.grouper_state.proofs.Stepped as stepped
use Rattle.grouper_state.proofs.state.GrouperState.next_due.Goals as goal

pub head-requires : goal.head-requires
head-requires c =
    let is = subst (λ o. IfSome o (λ (group : Group). c.args.self.now.grouper ≡ with_group (copies_of group) c.next_closed.new.self)) c.in-Some.is c.in_ok-group.ensures.first in
    let closed = subst (λ o. IfSome o (λ (group : Group). is_closed (is_past c.args.self.now.grouper.marks) c.args.self.now.grouper.window (copies_of group) ≡ true)) c.in-Some.is c.in_ok-group.ensures.closed in
    let idle = stepped.idle_when c.args.self.now.going (sym c.is_over.ensures ∙ c.if-not-is_over.false) in
    subst (λ (o : Outgoing). 0 < length o.group.members) (sym c.new.ensures)
    (stepped.given_filled c.requires.job c.requires.shape c.requires.me c.requires.taken c.requires.put c.args.self.now.grouper c.next_closed.new.self (copies_of c.in-Some.group) c.args.self.now.going c.args.self.now.turn c.args.self.now.processors c.args.self.now.mark c.args.self.now.finished is closed idle c.requires.is)

pub returns-in-Some-clause-puts : goal.returns-in-Some-clause-puts
returns-in-Some-clause-puts c = λ job shape me taken put h.
    let is = subst (λ o. IfSome o (λ (group : Group). c.args.self.now.grouper ≡ with_group (copies_of group) c.next_closed.new.self)) c.in-Some.is c.in_ok-group.ensures.first in
    let closed = subst (λ o. IfSome o (λ (group : Group). is_closed (is_past c.args.self.now.grouper.marks) c.args.self.now.grouper.window (copies_of group) ≡ true)) c.in-Some.is c.in_ok-group.ensures.closed in
    let idle = stepped.idle_when c.args.self.now.going (sym c.is_over.ensures ∙ c.if-not-is_over.false) in
    stepped.head_at job shape me taken put c.args.self.now.grouper c.next_closed.new.self (copies_of c.in-Some.group) c.args.self.now.going c.args.self.now.turn c.args.self.now.processors c.args.self.now.mark c.args.self.now.finished is closed idle h c.new.result c.new.ensures c.head.result c.head.ensures

pub returns-in-Some-clause-less : goal.returns-in-Some-clause-less
returns-in-Some-clause-less c = λ d e.
    let is = subst (λ o. IfSome o (λ (group : Group). c.args.self.now.grouper ≡ with_group (copies_of group) c.next_closed.new.self)) c.in-Some.is c.in_ok-group.ensures.first in
    let closed = subst (λ o. IfSome o (λ (group : Group). is_closed (is_past c.args.self.now.grouper.marks) c.args.self.now.grouper.window (copies_of group) ≡ true)) c.in-Some.is c.in_ok-group.ensures.closed in
    let idle = stepped.idle_when c.args.self.now.going (sym c.is_over.ensures ∙ c.if-not-is_over.false) in
    stepped.less_given c.args.self.now.grouper c.next_closed.new.self (copies_of c.in-Some.group) c.args.self.now.going c.new.result c.args.self.now.mark (one_if (not c.args.self.now.finished)) is c.new.ensures
    (stepped.given_filled c.requires.job c.requires.shape c.requires.me c.requires.taken c.requires.put c.args.self.now.grouper c.next_closed.new.self (copies_of c.in-Some.group) c.args.self.now.going c.args.self.now.turn c.args.self.now.processors c.args.self.now.mark c.args.self.now.finished is closed idle c.requires.is)

pub returns-in-None-clause-puts : goal.returns-in-None-clause-puts
returns-in-None-clause-puts c = λ job shape me taken put h.
    let same = subst (λ o. IfNone o (c.next_closed.new.self ≡ c.args.self.now.grouper)) c.in-None.is c.in_ok-group.ensures.unchanged in
    c.next_for_all.ensures.puts job shape me taken put
    (subst (λ (g : Grouping). StateIs job shape me taken put g c.args.self.now.going c.args.self.now.turn c.args.self.now.processors c.args.self.now.mark c.args.self.now.finished) (sym same) h)
