-- The count of all frames that wait, link by link.
use Rattle.std.proofs.Common.{arith}
use Rattle.parser_node.proofs.Passing.{none_by_count, some_by_count}
use Rattle.parser_node.proofs.passes.some_wait.Goals as goal

pub returns-clause-some : goal.returns-clause-some
returns-clause-some g c is = some_by_count c.args.out.now.queues (grind arith)

pub returns-clause-none : goal.returns-clause-none
returns-clause-none g c is = none_by_count c.args.out.now.queues (grind arith)
