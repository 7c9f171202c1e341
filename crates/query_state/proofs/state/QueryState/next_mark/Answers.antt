use Rattle.std.proofs.Common.{arith}
use Rattle.query_state.proofs.Stepped as stepped
use Rattle.query_state.proofs.state.QueryState.next_mark.Goals as goal

pub returns-clause-puts : goal.returns-clause-puts
returns-clause-puts c = λ job taken put h.
    let less = c.if-least-self.false in
    stepped.due_mark job taken put c.args.self.now.lanes.items c.args.self.now.marks c.args.self.now.profile c.args.self.now.mark c.args.self.now.next c.args.self.now.finished c.requires.open_yet h c.args.least c.requires.is (omega (arith, less))
