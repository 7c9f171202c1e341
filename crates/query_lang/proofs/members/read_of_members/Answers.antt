use Rattle.query_lang.proofs.members.read_of_members.Goals as goal

pub value_at-requires-clause-variable : goal.value_at-requires-clause-variable
value_at-requires-clause-variable c = rw c.in-First.is at c.requires.variable

pub value_at-requires-in-Last-clause-variable : goal.value_at-requires-in-Last-clause-variable
value_at-requires-in-Last-clause-variable c = rw c.in-Last.is at c.requires.variable

pub least-requires-clause-variable : goal.least-requires-clause-variable
least-requires-clause-variable c = rw c.in-Min.is at c.requires.variable

pub greatest-requires-clause-variable : goal.greatest-requires-clause-variable
greatest-requires-clause-variable c = rw c.in-Max.is at c.requires.variable

pub different-requires : goal.different-requires
different-requires c = rw c.in-Distinct.is at c.requires.variable

pub first_of-requires : goal.first_of-requires
first_of-requires c = rw c.in-At.is at c.requires.variable
