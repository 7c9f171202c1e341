-- A pass in which something moved, and further ones.
use Rattle.std.proofs.Common.{rules}
use Rattle.grouper_node.proofs.Stepping.{fails_on}
use Rattle.grouper_node.proofs.Resting.{moved_by, rested_by}
use Rattle.grouper_node.proofs.Turning.{moved_turn, rest_turn}
use Rattle.grouper_node.proofs.work.Work.turn.Goals as goal

pub returns-in-Ok-go_on-clause-turns : goal.returns-in-Ok-go_on-clause-turns
returns-in-Ok-go_on-clause-turns g c =
    let pass = c.in-Ok.ensures.passes in
    moved_turn c.args.self.now c.pass.new.self c.go_on.new.self pass.0 (moved_by c.in-Ok.moved c.args.self.now c.pass.new.self (search rules) pass) c.in-Ok-go_on.ensures.steps

pub returns-in-Err-go_on-clause-fails : goal.returns-in-Err-go_on-clause-fails
returns-in-Err-go_on-clause-fails g c = fails_on c.args.self.now c.pass.new.self c.go_on.new.self c.in-Ok.ensures.passes.0 c.in-Err-go_on.bad c.in-Err-go_on.ensures.fails

pub returns-then-not-moved-clause-turns : goal.returns-then-not-moved-clause-turns
returns-then-not-moved-clause-turns g c =
    let pass = c.in-Ok.ensures.passes in
    rest_turn c.rest.result c.args.self.now c.pass.new.self pass.0 (rested_by c.in-Ok.moved c.args.self.now c.pass.new.self (search rules) pass) c.rest.ensures
