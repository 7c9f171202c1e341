use Rattle.header_stack.proofs.Chains.{stack_is, stack_is_only}
use Rattle.header_stack.proofs.packet.one_stack.Goals as goal

pub returns-clause-is : goal.returns-clause-is
returns-clause-is c = stack_is

pub returns-clause-only : goal.returns-clause-only
returns-clause-only c = stack_is_only
