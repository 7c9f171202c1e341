use Rattle.std.proofs.Common.{None, Some}
use Rattle.command_words.specs.Words.Asked.{AskedHelp, AskedSample}
use Rattle.command_words.specs.declared.help.TheConstants.{HELP}
use Rattle.run_faults.specs.declared.fault.RunFault.{RunFault}
use Rattle.dshark_cli.specs.Links.{RowsSay}
use Rattle.dshark_cli.specs.Rooms.{room_of}
use Rattle.dshark_cli.specs.Run.{EndsOk, EndsBy}
use Rattle.dshark_cli.proofs.Plain.{named_same, text_ends}
use Rattle.dshark_cli.proofs.tool.run_command.Goals as goal

pub returns-in-Help-clause-prefix : goal.returns-in-Help-clause-prefix
returns-in-Help-clause-prefix g c folder out = rw c.in-Help.is (c.write_text.ensures.prefix out)

pub returns-in-Central-clause-prefix : goal.returns-in-Central-clause-prefix
returns-in-Central-clause-prefix g c folder out = rw c.in-Central.is (c.run_central.ensures.prefix folder out)

pub returns-in-Central-clause-ends : goal.returns-in-Central-clause-ends
returns-in-Central-clause-ends g c = rw c.in-Central.is c.run_central.ensures.ends

pub returns-in-Stack-clause-prefix : goal.returns-in-Stack-clause-prefix
returns-in-Stack-clause-prefix g c folder out = rw c.in-Stack.is (c.run_stack.ensures.prefix folder out)

pub returns-in-Sample-clause-prefix : goal.returns-in-Sample-clause-prefix
returns-in-Sample-clause-prefix g c folder out = rw c.in-Sample.is (c.print_sample.ensures.prefix out)

pub returns-in-Sample-clause-ends : goal.returns-in-Sample-clause-ends
returns-in-Sample-clause-ends g c =
    let folder = g.F.Folder.seen c.args.folder.now in
    let old = g.O.Sink.seen c.args.out.now in
    let new = g.O.Sink.seen c.print_sample.new.out in
    rw c.in-Sample.is (named_same (EndsOk (room_of (AskedSample c.in-Sample.number c.in-Sample.sizes)) folder folder old new) (EndsBy (room_of (AskedSample c.in-Sample.number c.in-Sample.sizes)) folder folder old new) c.print_sample.result c.unnamed-in-Sample.result c.unnamed-in-Sample.ensures (c.print_sample.ensures.ends folder))

pub returns-in-Sample-clause-links : goal.returns-in-Sample-clause-links
returns-in-Sample-clause-links g c =
    let folder = g.F.Folder.seen c.args.folder.now in
    rw c.in-Sample.is (named_same _ (λ (fault : RunFault). RowsSay (AskedSample c.in-Sample.number c.in-Sample.sizes) folder (Some fault) _) c.print_sample.result c.unnamed-in-Sample.result c.unnamed-in-Sample.ensures (c.print_sample.ensures.links folder))

pub returns-in-Help-clause-ends : goal.returns-in-Help-clause-ends
returns-in-Help-clause-ends g c =
    let folder = g.F.Folder.seen c.args.folder.now in
    let old = g.O.Sink.seen c.args.out.now in
    let new = g.O.Sink.seen c.write_text.new.out in
    rw c.in-Help.is (named_same (EndsOk (room_of AskedHelp) folder folder old new) (EndsBy (room_of AskedHelp) folder folder old new) c.write_text.result c.unnamed-in-Help.result c.unnamed-in-Help.ensures
    (text_ends HELP.now folder old new c.write_text.result c.write_text.ensures.faults c.write_text.ensures.whole))
