use Rattle.query_lang.proofs.OneAnswer.{gives_one, gives_or_refuses, refuses_one}
use Rattle.query_lang.proofs.law.one_answer.Goals as goal

pub returns : goal.returns
returns c =
    let law = c.one_outcome.ensures in
    record { expression = gives_one law.tree; fault = refuses_one law.tree law.either law.fault; either = gives_or_refuses law.tree law.either }
