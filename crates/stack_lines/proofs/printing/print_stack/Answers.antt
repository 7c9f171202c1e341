use Rattle.output_text.proofs.Gaining.{gains_nothing}
use Rattle.stack_lines.proofs.printing.print_stack.Goals as goal

pub returns-in_err-source-clause-prefix : goal.returns-in_err-source-clause-prefix
returns-in_err-source-clause-prefix g c told out = gains_nothing _ _
