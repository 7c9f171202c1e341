use Rattle.std.proofs.Common.{map, string_bytes, Global}
use Rattle.dshark_cli.specs.Run.{run_of}
use Rattle.dshark_cli.proofs.Stopping.{line_named}
use Rattle.dshark_cli.proofs.tool.run_tool.Goals as goal

pub returns-clause-promises : goal.returns-clause-promises
returns-clause-promises g c = rw c.fault_of-fault.ensures c.run-stop.ensures.promises

pub returns-clause-line : goal.returns-clause-line
returns-clause-line g c told =
    line_named (run_of (map (string_bytes {Z = Global}) c.args.words.now) (g.F.Folder.seen c.args.folder.now) (g.F.Folder.seen c.run-stop.new.folder) (g.O.Sink.seen c.args.out.now) (g.O.Sink.seen c.run-stop.new.out))
    c.run-stop.result.stop c.fault_of-fault.result (g.E.Sink.seen c.args.err.now) (g.E.Sink.seen c.complain.new.err) c.fault_of-fault.ensures c.run-stop.ensures.named (c.complain.ensures.prefix told) (c.complain.ensures.whole told)

pub returns-clause-links : goal.returns-clause-links
returns-clause-links g c = rw c.fault_of-fault.ensures c.run-stop.ensures.links
