-- The lines that are due behind the passes.
use Rattle.result_merge.proofs.Stepping.{fails_on}
use Rattle.result_merge.proofs.Turning.{writes_behind}
use Rattle.result_merge.proofs.work.Work.go_on_and_write.Goals as goal

pub returns-in-Ok-write_due-clause-writes : goal.returns-in-Ok-write_due-clause-writes
returns-in-Ok-write_due-clause-writes g c = writes_behind c.args.self.now c.go_on.new.self c.write_due.new.self c.in-Ok.ensures.steps c.in-Ok-write_due.ensures.writes

pub returns-in-Err-write_due-clause-fails : goal.returns-in-Err-write_due-clause-fails
returns-in-Err-write_due-clause-fails g c = fails_on c.args.self.now c.go_on.new.self c.write_due.new.self c.in-Ok.ensures.steps c.in-Err-write_due.bad c.in-Err-write_due.ensures.fails
