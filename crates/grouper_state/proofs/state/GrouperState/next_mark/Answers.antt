use Rattle.std.proofs.Common.{arith}
use Rattle.grouper_state.proofs.Stepped as stepped
use Rattle.grouper_state.proofs.state.GrouperState.next_mark.Goals as goal

pub returns-clause-puts : goal.returns-clause-puts
returns-clause-puts c = λ job shape me taken put h.
    let up = c.if-mark-self.false in
    stepped.mark_at job shape me taken put c.args.self.now.grouper c.args.self.now.going c.args.self.now.turn c.args.self.now.processors c.args.self.now.mark c.args.self.now.finished h c.requires.idle c.args.mark c.requires.is c.requires.settled (omega (arith, up))
