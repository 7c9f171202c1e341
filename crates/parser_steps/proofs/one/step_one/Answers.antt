use Rattle.parser_steps.proofs.one.step_one.Goals as goal

pub returns-in-Ok-Took-clause-ends : goal.returns-in-Ok-Took-clause-ends
returns-in-Ok-Took-clause-ends g c =
    let a = rw c.in-Ok-Took.field-0-is at c.in-Ok-Took.ensures.ends in
    (a.0, record { found = c.in-Ok-Took.found; took = c.advance.new.self; takes = a.1; puts = c.put_record.ensures.puts })
