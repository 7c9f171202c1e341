use Rattle.stack_lines.specs.declared.line.Asking.{Asking}
use Rattle.dshark_cli.proofs.Stacking.{stack_ok, stack_stops}
use Rattle.dshark_cli.proofs.stack.run_stack.Goals as goal

pub returns-in-Ok-clause-ends : goal.returns-in-Ok-clause-ends
returns-in-Ok-clause-ends g c =
    let asking : Asking = record { port = c.args.port; field = c.args.field } in
    stack_ok asking c.args.file.now (g.F.Folder.seen c.args.folder.now) (g.F.Folder.seen c.print_stack.new.folder) (g.O.Sink.seen c.args.out.now) (g.O.Sink.seen c.print_stack.new.out) c.in-Ok.ensures.ends

pub returns-in-Err-clause-ends : goal.returns-in-Err-clause-ends
returns-in-Err-clause-ends g c =
    let asking : Asking = record { port = c.args.port; field = c.args.field } in
    rw c.of_stack.ensures (stack_stops asking c.args.file.now (g.F.Folder.seen c.args.folder.now) (g.F.Folder.seen c.print_stack.new.folder) (g.O.Sink.seen c.args.out.now) (g.O.Sink.seen c.print_stack.new.out) c.in-Err.fault c.in-Err.ensures.ends)
