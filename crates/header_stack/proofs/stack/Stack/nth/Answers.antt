use Rattle.std.proofs.Common.{rules}
use Rattle.header_stack.proofs.Looking.{Contains-nth_of}
use Rattle.header_stack.proofs.stack.Stack.nth.Goals as goal

pub returns-then-f-clause-among : goal.returns-then-f-clause-among
returns-then-f-clause-among c = Contains-nth_of (λ place. place.kind) c.args.f.now c.args.self.now c.from_inside.result (search rules)

pub returns-else-f-clause-among : goal.returns-else-f-clause-among
returns-else-f-clause-among c = Contains-nth_of (λ place. place.kind) c.args.f.now c.args.self.now c.from_outside.result (search rules)
