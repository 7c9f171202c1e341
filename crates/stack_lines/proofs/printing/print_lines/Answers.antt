use Rattle.std.proofs.Common.{None, ◌∙◌, ◌++◌, List, ℕ, sym, ap, subst}
use Rattle.std.proofs.lemmas.List.{append-nil}
use Rattle.ds_base.specs.Gain.{GainsPrefix}
use Rattle.pcap_reader.specs.Good.{good}
use Rattle.stack_lines.specs.Printing.{lines_by, report_by}
use Rattle.stack_lines.proofs.Begun.{begun_of_whole, begun_report, whole_report}
use Rattle.stack_lines.proofs.printing.print_lines.Goals as goal

pub returns-in_err-print_records-clause-prefix : goal.returns-in_err-print_records-clause-prefix
returns-in_err-print_records-clause-prefix g c told out = begun_report c.args.printer.now.asking _ _ (g.S.Source.seen c.args.source.now).whole (c.print_records.ensures.prefix told out)

pub returns-in_err-end-in-Ok-clause-prefix : goal.returns-in_err-end-in-Ok-clause-prefix
returns-in_err-end-in-Ok-clause-prefix g c told out =
    let read = c.in_ok-print_records.ensures.ends in
    let asking = c.args.printer.now.asking in
    let start = (g.O.Sink.seen c.args.out.now).written in
    let whole = c.in-Ok.ensures.whole None (g.S.Source.seen c.print_records.new.source) read.given (good None read.given).records read.read in
    let P : List ℕ → Type 0 = λ text. GainsPrefix start (g.O.Sink.seen c.end.new.out).written text in
    subst P (whole_report asking read.given c.in-Ok.tail.cut whole.0 whole.2 ∙ ap (λ bytes. report_by asking bytes) (sym (read.whole told)))
    (c.end.ensures.prefix start (lines_by asking (good None read.given).records) read.text out)

pub returns-in_ok-end-in-Ok-clause-prefix : goal.returns-in_ok-end-in-Ok-clause-prefix
returns-in_ok-end-in-Ok-clause-prefix g c told out =
    let read = c.in_ok-print_records.ensures.ends in
    let asking = c.args.printer.now.asking in
    let start = (g.O.Sink.seen c.args.out.now).written in
    let whole = c.in-Ok.ensures.whole None (g.S.Source.seen c.print_records.new.source) read.given (good None read.given).records read.read in
    let P : List ℕ → Type 0 = λ text. GainsPrefix start (g.O.Sink.seen c.end.new.out).written text in
    subst P (whole_report asking read.given c.in-Ok.tail.cut whole.0 whole.2 ∙ ap (λ bytes. report_by asking bytes) (sym (read.whole told)))
    (c.end.ensures.prefix start (lines_by asking (good None read.given).records) read.text out)

pub returns-in_err-write-in-Err-clause-prefix : goal.returns-in_err-write-in-Err-clause-prefix
returns-in_err-write-in-Err-clause-prefix g c told out =
    let read = c.in_ok-print_records.ensures.ends in
    let asking = c.args.printer.now.asking in
    let start = (g.O.Sink.seen c.args.out.now).written in
    let whole = (g.S.Source.seen c.args.source.now).whole in
    begun_report asking start _ whole (begun_of_whole asking start _ read.given whole (read.whole told)
    (c.write.ensures.prefix start (lines_by asking (good None read.given).records) read.text out))

pub returns-in_ok-end-in-Ok-clause-ends : goal.returns-in_ok-end-in-Ok-clause-ends
returns-in_ok-end-in-Ok-clause-ends g c =
    let read = c.in_ok-print_records.ensures.ends in
    let asking = c.args.printer.now.asking in
    let start = (g.O.Sink.seen c.args.out.now).written in
    let whole = c.in-Ok.ensures.whole None (g.S.Source.seen c.print_records.new.source) read.given (good None read.given).records read.read in
    let ended = c.in_ok-end-in-Ok.ensures.ends in
    record {
      faults = read.faults;
      quiet = ended.faults ∙ read.quiet;
      given = read.given;
      sound = whole.0;
      written = λ out.
          ended.whole start (lines_by asking (good None read.given).records) read.text (rw c.in_ok-print_records.ensures.out_stays.told out)
          ∙ ap (λ (text : List ℕ). start ++ text) (whole_report asking read.given c.in-Ok.tail.cut whole.0 whole.2);
      whole = read.whole;
    }

pub returns-in_ok-write-in-Err-clause-ends : goal.returns-in_ok-write-in-Err-clause-ends
returns-in_ok-write-in-Err-clause-ends g c =
    let read = c.in_ok-print_records.ensures.ends in
    let asking = c.args.printer.now.asking in
    let start = (g.O.Sink.seen c.args.out.now).written in
    let lines = lines_by asking (good None read.given).records in
    let short = c.in-Err.ensures.short None (g.S.Source.seen c.print_records.new.source) read.given (good None read.given).records read.read in (
      read.faults,
      λ told. ap (λ (bytes : List ℕ). (good None bytes).bad) (read.whole told) ∙ short.0,
      λ told out.
          c.in_ok-write-in-Err.ensures.ends.whole start lines read.text (rw c.in_ok-print_records.ensures.out_stays.told out)
          ∙ ap (λ (text : List ℕ). start ++ text) (append-nil lines)
          ∙ ap (λ (bytes : List ℕ). start ++ lines_by asking (good None bytes).records) (sym (read.whole told)),
    )
