use Rattle.grouper_state.proofs.Stepped as stepped
use Rattle.grouper_state.proofs.state.GrouperState.next_member.Goals as goal

pub returns-clause-puts : goal.returns-clause-puts
returns-clause-puts c = λ job shape me taken put h.
    stepped.member_at job shape me taken put c.args.self.now.grouper c.args.self.now.going c.args.self.now.turn c.args.self.now.processors c.args.self.now.mark c.args.self.now.finished h c.next_member-frame.result c.next_member-frame.ensures.frame c.requires.going
    c.next_member-frame.new.self c.next_member-frame.ensures.further c.is_over.result c.is_over.ensures c.following-self.result c.following-self.ensures
