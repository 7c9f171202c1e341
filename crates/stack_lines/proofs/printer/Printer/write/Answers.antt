use Rattle.stack_lines.proofs.Begun.{begun_by_write}
use Rattle.stack_lines.proofs.printer.Printer.write.Goals as goal

pub returns-in-Ok-clause-prefix : goal.returns-in-Ok-clause-prefix
returns-in-Ok-clause-prefix g c start text = begun_by_write start text c.as_slice.result.now c.args.self.now.text.items (g.O.Sink.seen c.args.out.now) (g.O.Sink.seen c.write_all.new.out) c.in-Ok.ensures.stays c.as_slice.ensures.value c.in-Ok.ensures.prefix

pub returns-in-Err-clause-prefix : goal.returns-in-Err-clause-prefix
returns-in-Err-clause-prefix g c start text = begun_by_write start text c.as_slice.result.now c.args.self.now.text.items (g.O.Sink.seen c.args.out.now) (g.O.Sink.seen c.write_all.new.out) c.in-Err.ensures.stays c.as_slice.ensures.value c.in-Err.ensures.prefix
