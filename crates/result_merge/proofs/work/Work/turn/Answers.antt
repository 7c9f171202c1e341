-- A pass in which something moved, further ones, and the lines that are due.
use Rattle.std.proofs.Common.{rules}
use Rattle.result_merge.proofs.Stepping.{fails_on}
use Rattle.result_merge.proofs.Resting.{moved_by, rested_by}
use Rattle.result_merge.proofs.Turning.{moved_turn, rest_turn}
use Rattle.result_merge.proofs.work.Work.turn.Goals as goal

pub returns-then-not-moved-clause-turns : goal.returns-then-not-moved-clause-turns
returns-then-not-moved-clause-turns g c =
    let pass = c.in-Ok.ensures.passes in
    rest_turn c.rest.result c.args.self.now c.pass.new.self pass.0 (rested_by c.in-Ok.moved c.args.self.now c.pass.new.self (search rules) pass) c.requires.rests c.rest.ensures

pub returns-in-Ok-go_on_and_write-clause-turns : goal.returns-in-Ok-go_on_and_write-clause-turns
returns-in-Ok-go_on_and_write-clause-turns g c =
    let pass = c.in-Ok.ensures.passes in
    moved_turn c.args.self.now c.pass.new.self c.go_on_and_write.new.self pass.0 (moved_by c.in-Ok.moved c.args.self.now c.pass.new.self (search rules) pass) c.in-Ok-go_on_and_write.ensures.writes

pub returns-in-Err-go_on_and_write-clause-fails : goal.returns-in-Err-go_on_and_write-clause-fails
returns-in-Err-go_on_and_write-clause-fails g c = fails_on c.args.self.now c.pass.new.self c.go_on_and_write.new.self c.in-Ok.ensures.passes.0 c.in-Err-go_on_and_write.bad c.in-Err-go_on_and_write.ensures.fails
