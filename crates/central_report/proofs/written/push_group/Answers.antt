use Rattle.ds_base.specs.Copies.{copies_of}
use Rattle.summary_spec.specs.Job.{declared_of}
use Rattle.std.proofs.lemmas.Result.{on_ok_weaker}
use Rattle.central_report.proofs.Lines.{group_line}
use Rattle.central_report.proofs.written.push_group.Goals as goal

pub returns : goal.returns
returns c =
    on_ok_weaker c.push_answer_line.result
    (group_line c.args.job.now.names.captures.items (declared_of c.args.job.now).query (copies_of c.args.group.now) _ c.args.text.now.items _ c.requires.some c.answer_of-answer.ensures.answer)
    c.push_answer_line.ensures.pushed
