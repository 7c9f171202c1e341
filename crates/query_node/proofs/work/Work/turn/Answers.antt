-- A pass in which something moved, and further ones.
use Rattle.std.proofs.Common.{rules}
use Rattle.query_node.proofs.Stepping.{fails_on}
use Rattle.query_node.proofs.Resting.{moved_by}
use Rattle.query_node.proofs.Turning.{moved_turn}
use Rattle.query_node.proofs.work.Work.turn.Goals as goal

pub returns-in-Ok-go_on-clause-turns : goal.returns-in-Ok-go_on-clause-turns
returns-in-Ok-go_on-clause-turns g c =
    let pass = c.in-Ok.ensures.passes in
    moved_turn c.args.self.now c.pass.new.self c.go_on.new.self pass.0 (moved_by c.in-Ok.moved c.args.self.now c.pass.new.self (search rules) pass) c.in-Ok-go_on.ensures.steps

pub returns-in-Err-go_on-clause-fails : goal.returns-in-Err-go_on-clause-fails
returns-in-Err-go_on-clause-fails g c = fails_on c.args.self.now c.pass.new.self c.go_on.new.self c.in-Ok.ensures.passes.0 c.requires.0.one_out c.in-Err-go_on.bad c.in-Err-go_on.ensures.fails
