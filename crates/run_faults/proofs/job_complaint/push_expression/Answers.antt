use Rattle.std.proofs.Common.{◌++◌, ◌∙◌, ap}
use Rattle.std.specs.Prelude.{codes}
use Rattle.std.specs.Fmt.{decimal}
use Rattle.run_faults.specs.JobLine.{expression_what}
use Rattle.run_faults.proofs.Pieces.{four_pieces}
use Rattle.run_faults.proofs.job_complaint.push_expression.Goals as goal

pub returns-clause-text : goal.returns-clause-text
returns-clause-text c =
    four_pieces c.args.line.now c.push.new.self c.push_number.new.self c.push-2.new.self c.push-3.new.self (codes "expression ") (decimal c.args.at) (codes " ") (expression_what c.args.what)
    c.push.ensures (c.push_number.ensures.text ∙ ap (λ n. c.push.new.self ++ decimal n) c.from.ensures) c.push-2.ensures
    (c.push-3.ensures ∙ ap (λ xs. c.push-2.new.self ++ xs) (c.as_bytes.ensures.value ∙ c.expression_what.ensures.text))
