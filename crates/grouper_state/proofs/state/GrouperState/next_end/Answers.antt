use Rattle.grouper_state.proofs.Stepped as stepped
use Rattle.grouper_state.proofs.state.GrouperState.next_end.Goals as goal

pub returns-clause-puts : goal.returns-clause-puts
returns-clause-puts c = λ job shape me taken put h.
    stepped.end_put job shape me taken put c.args.self.now.grouper c.args.self.now.going c.args.self.now.turn c.args.self.now.processors c.args.self.now.mark c.args.self.now.finished h c.requires.idle c.if-self.false c.requires.none c.requires.held
