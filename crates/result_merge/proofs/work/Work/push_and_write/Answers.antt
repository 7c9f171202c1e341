-- What was pushed is written.
use Rattle.result_merge.proofs.Writing.{writes_due, write_fails}
use Rattle.result_merge.proofs.work.Work.push_and_write.Goals as goal

pub returns-in-Ok-write-clause-writes : goal.returns-in-Ok-write-clause-writes
returns-in-Ok-write-clause-writes g c =
    writes_due c.args.self.now c.push_due.new.self c.write.new.self c.push_due.new.text.items c.requires.sound c.in-Ok.ensures.pushes c.write.ensures.writes c.in-Ok-write.ensures.whole c.in-Ok-write.ensures.calm

pub returns-in-Err-write-clause-fails : goal.returns-in-Err-write-clause-fails
returns-in-Err-write-clause-fails g c =
    write_fails c.args.self.now c.push_due.new.self c.write.new.self c.push_due.new.text.items c.requires.sound c.in-Ok.ensures.pushes c.write.ensures.writes c.in-Err-write.bad c.in-Err-write.ensures.failed.0 c.in-Err-write.ensures.failed.1
