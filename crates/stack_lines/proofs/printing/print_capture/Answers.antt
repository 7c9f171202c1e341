use Rattle.output_text.proofs.Gaining.{gains_nothing}
use Rattle.stack_lines.proofs.printing.print_capture.Goals as goal

pub returns-in_err-reading-clause-prefix : goal.returns-in_err-reading-clause-prefix
returns-in_err-reading-clause-prefix g c told out = gains_nothing _ _

pub print_lines-requires-clause-unread : goal.print_lines-requires-clause-unread
print_lines-requires-clause-unread g c = c.in_ok-reading.ensures.none (g.S.Source.seen c.args.source.now) c.requires
