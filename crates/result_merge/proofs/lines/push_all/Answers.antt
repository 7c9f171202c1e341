-- One line more.
use Rattle.std.proofs.Common.{rules}
use Rattle.summary_spec.specs.Job.{declared_of}
use Rattle.result_merge.proofs.Writing.{pushes_none, pushes_on, stands_on}
use Rattle.result_merge.proofs.lines.push_all.Goals as goal

pub lines-init : goal.lines-init
lines-init c = pushes_none (declared_of c.args.job.now) c.args.state.now c.args.text.now.items

pub push_due-requires : goal.push_due-requires
push_due-requires c = stands_on (declared_of c.args.job.now) c.args.state.now c.lines.state c.args.text.now.items c.lines.text.items c.requires c.lines.invariant

pub lines-preserved : goal.lines-preserved
lines-preserved c =
    pushes_on (declared_of c.args.job.now) c.args.state.now c.lines.state c.push_due.new.self c.args.text.now.items c.lines.text.items c.push_due.new.text.items c.lines.invariant c.in-Ok-true.ensures.pushes

pub returns-in-Ok-false-clause-pushes : goal.returns-in-Ok-false-clause-pushes
returns-in-Ok-false-clause-pushes c =
    pushes_on (declared_of c.args.job.now) c.args.state.now c.lines.state c.push_due.new.self c.args.text.now.items c.lines.text.items c.push_due.new.text.items c.lines.invariant c.in-Ok-false.ensures.pushes

pub returns-in-Ok-false-clause-all : goal.returns-in-Ok-false-clause-all
returns-in-Ok-false-clause-all c = c.in-Ok-false.ensures.all (search rules)
