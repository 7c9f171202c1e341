use Rattle.std.proofs.Common.{refl}
use Rattle.query_lang.specs.Expression.{expression_of}
use Rattle.job_values.proofs.Parsing.{parsed_gives, parsed_refuses}
use Rattle.job_values.proofs.leaves.expression_in.Goals as goal

pub returns-in-Ok-clause-answer : goal.returns-in-Ok-clause-answer
returns-in-Ok-clause-answer c =
    rw (parsed_gives c.args.names.now c.args.scope c.args.text.now (expression_of c.in-Ok.e) c.in-Ok.ensures.expression) refl

pub returns-in-Err-Bad-clause-answer : goal.returns-in-Err-Bad-clause-answer
returns-in-Err-Bad-clause-answer c =
    rw (parsed_refuses c.args.names.now c.args.scope c.args.text.now c.in-Err-Bad.f (rw c.in-Err-Bad.field-0-is at c.in-Err-Bad.ensures.fault), c.fault_at.ensures) refl

pub returns-in-Ok-clause-parsed : goal.returns-in-Ok-clause-parsed
returns-in-Ok-clause-parsed c =
    parsed_gives c.args.names.now c.args.scope c.args.text.now (expression_of c.in-Ok.e) c.in-Ok.ensures.expression
