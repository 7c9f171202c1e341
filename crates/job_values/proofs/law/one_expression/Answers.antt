use Rattle.job_values.proofs.Parsing.{parsed_gives, parsed_refuses, gives_parsed, refuses_parsed}
use Rattle.job_values.proofs.law.one_expression.Goals as goal

pub returns : goal.returns
returns c = record {
  gives = λ text names scope e. (gives_parsed names scope text e, parsed_gives names scope text e);
  refuses = λ text names scope f. (refuses_parsed names scope text f, parsed_refuses names scope text f);
}
