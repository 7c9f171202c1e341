use Rattle.job_table.proofs.Elements.{not_two, two_items}
use Rattle.job_table.proofs.rewrites.both.Goals as goal

pub returns-then-parts-ne2-clause-answer : goal.returns-then-parts-ne2-clause-answer
returns-then-parts-ne2-clause-answer c =
    rw c.fault_at-fault.ensures (not_two c.args.index c.args.parts.now c.if-parts-ne2.true)

pub returns-clause-answer : goal.returns-clause-answer
returns-clause-answer c =
    rw (two_items c.args.index c.args.parts.now c.index-parts-0.result c.index-parts-1.result c.if-parts-ne2.false c.index-parts-0.is c.index-parts-1.is)
    c.pair.ensures.answer
