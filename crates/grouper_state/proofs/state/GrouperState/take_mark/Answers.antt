use Rattle.grouper_state.proofs.Stepped as stepped
use Rattle.grouper_state.proofs.state.GrouperState.take_mark.Goals as goal

pub returns : goal.returns
returns c = record {
  takes = λ job shape me taken put link h takes.
      stepped.mark_taken job shape me taken put c.args.self.now.grouper c.args.self.now.going c.args.self.now.turn c.args.self.now.processors c.args.self.now.mark c.args.self.now.finished link h c.args.capture c.args.mark takes c.raise.new.self c.raise.ensures.marks c.raise.ensures.stands;
}
