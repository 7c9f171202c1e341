use Rattle.std.proofs.Common.{◌++◌, ◌∙◌, ap, append_assoc}
use Rattle.std.specs.Prelude.{codes}
use Rattle.std.specs.Fmt.{decimal}
use Rattle.run_faults.proofs.complaint.push_fault.Goals as goal

pub returns-in-Usage-clause-text : goal.returns-in-Usage-clause-text
returns-in-Usage-clause-text c =
    rw c.in-Usage.is (c.push_number.ensures.text ∙ ap (λ n. c.push.new.self ++ decimal n) c.from.ensures
    ∙ ap (λ xs. xs ++ decimal c.in-Usage.place) c.push.ensures ∙ append_assoc c.args.line.now (codes "usage: word ") (decimal c.in-Usage.place))
