use Rattle.std.proofs.Common.{rules, Some, None, refl, ap, map, string_bytes, Global}
use Rattle.command_words.specs.Command.{asked_of}
use Rattle.dshark_cli.specs.Promises.{Promises}
use Rattle.dshark_cli.specs.Run.{Run, run_of}
use Rattle.dshark_cli.proofs.Limits.{in_limits}
use Rattle.dshark_cli.proofs.Plain.{no_rows_refused, rows_asked}
use Rattle.dshark_cli.proofs.Promised.{promised, promised_refusal}
use Rattle.dshark_cli.proofs.Stopping.{has_name}
use Rattle.dshark_cli.proofs.tool.run.Goals as goal

pub run_command-requires : goal.run_command-requires
run_command-requires g c =
    (search rules, (in_limits (map (string_bytes {Z = Global}) c.args.words.now) (asked_of c.in-Ok.command) c.in-Ok.ensures.accepts, (c.new-links.ensures.none, c.new-links.ensures.not_done)))

pub returns-in-Err-clause-promises : goal.returns-in-Err-clause-promises
returns-in-Err-clause-promises g c =
    let run : Run = (run_of (map (string_bytes {Z = Global}) c.args.words.now) (g.F.Folder.seen c.args.folder.now) (g.F.Folder.seen c.args.folder.now) (g.O.Sink.seen c.args.out.now) (g.O.Sink.seen c.args.out.now)) in
    rw c.unnamed.ensures.fault (promised_refusal run c.in-Err.bad.place c.in-Err.ensures.refused c.in-Err.ensures.one_place refl refl)

pub returns-in-Ok-run_command-clause-promises : goal.returns-in-Ok-run_command-clause-promises
returns-in-Ok-run_command-clause-promises g c =
    let run : Run = (run_of (map (string_bytes {Z = Global}) c.args.words.now) (g.F.Folder.seen c.args.folder.now) (g.F.Folder.seen c.run_command.new.folder) (g.O.Sink.seen c.args.out.now) (g.O.Sink.seen c.run_command.new.out)) in
    promised run (asked_of c.in-Ok.command) None c.in-Ok.ensures.accepts c.in-Ok.ensures.only c.in-Ok-run_command.ensures.prefix c.in-Ok-run_command.ensures.ends

pub returns-in-Err-run_command-clause-promises : goal.returns-in-Err-run_command-clause-promises
returns-in-Err-run_command-clause-promises g c =
    let run : Run = (run_of (map (string_bytes {Z = Global}) c.args.words.now) (g.F.Folder.seen c.args.folder.now) (g.F.Folder.seen c.run_command.new.folder) (g.O.Sink.seen c.args.out.now) (g.O.Sink.seen c.run_command.new.out)) in
    promised run (asked_of c.in-Ok.command) (Some c.in-Err-run_command.stop.fault) c.in-Ok.ensures.accepts c.in-Ok.ensures.only c.in-Err-run_command.ensures.prefix c.in-Err-run_command.ensures.ends

pub returns-in-Err-run_command-clause-named : goal.returns-in-Err-run_command-clause-named
returns-in-Err-run_command-clause-named g c =
    let run : Run = (run_of (map (string_bytes {Z = Global}) c.args.words.now) (g.F.Folder.seen c.args.folder.now) (g.F.Folder.seen c.run_command.new.folder) (g.O.Sink.seen c.args.out.now) (g.O.Sink.seen c.run_command.new.out)) in
    has_name run (asked_of c.in-Ok.command) c.in-Err-run_command.stop.name c.in-Err-run_command.stop.fault c.in-Ok.ensures.only c.in-Err-run_command.ensures.named

pub returns-in-Err-clause-links : goal.returns-in-Err-clause-links
returns-in-Err-clause-links g c =
    let run : Run = (run_of (map (string_bytes {Z = Global}) c.args.words.now) (g.F.Folder.seen c.args.folder.now) (g.F.Folder.seen c.args.folder.now) (g.O.Sink.seen c.args.out.now) (g.O.Sink.seen c.args.out.now)) in
    no_rows_refused run _ c.new-links.result c.in-Err.ensures.refused.none c.new-links.ensures.none

pub returns-in-Ok-run_command-clause-links : goal.returns-in-Ok-run_command-clause-links
returns-in-Ok-run_command-clause-links g c =
    let run : Run = (run_of (map (string_bytes {Z = Global}) c.args.words.now) (g.F.Folder.seen c.args.folder.now) (g.F.Folder.seen c.run_command.new.folder) (g.O.Sink.seen c.args.out.now) (g.O.Sink.seen c.run_command.new.out)) in
    rows_asked run (asked_of c.in-Ok.command) None _ c.in-Ok.ensures.accepts c.in-Ok.ensures.only c.in-Ok-run_command.ensures.links

pub returns-in-Err-run_command-clause-links : goal.returns-in-Err-run_command-clause-links
returns-in-Err-run_command-clause-links g c =
    let run : Run = (run_of (map (string_bytes {Z = Global}) c.args.words.now) (g.F.Folder.seen c.args.folder.now) (g.F.Folder.seen c.run_command.new.folder) (g.O.Sink.seen c.args.out.now) (g.O.Sink.seen c.run_command.new.out)) in
    rows_asked run (asked_of c.in-Ok.command) (Some c.in-Err-run_command.stop.fault) _ c.in-Ok.ensures.accepts c.in-Ok.ensures.only c.in-Err-run_command.ensures.links
