use Rattle.std.proofs.Common.{ℕ, ◌∙◌, length, refl, ap}
use Rattle.std.proofs.lemmas.List.{length-map}
use Rattle.std.proofs.lemmas.Result.{IfOk-weaker}
use Rattle.summary_spec.specs.Job.{declared_of}
use Rattle.window_grouper.specs.Groups.{groups_of}
use Rattle.window_grouper.specs.Sorted.{by_stamp}
use Rattle.central_report.specs.Report.{lines_of}
use Rattle.central_report.proofs.Reporting.{in_turn, written_among, whole_report}
use Rattle.central_report.proofs.central.central_text.Goals as goal

pub answer_all-requires-clause-list : goal.answer_all-requires-clause-list
answer_all-requires-clause-list c = in_turn (declared_of c.args.job.now) c.args.list.now.items c.requires.list

pub closed-requires-clause-rows : goal.closed-requires-clause-rows
closed-requires-clause-rows c =
    let job = declared_of c.args.job.now in
    let names = c.args.job.now.names.captures.items in
    written_among names job (length names) (by_stamp c.args.list.now.items) _ c.args.job.now.lawful (length-map names (λ list. list.items))
    (in_turn job c.args.list.now.items c.requires.list) c.in_ok-written.ensures

pub returns : goal.returns
returns c =
    let job = declared_of c.args.job.now in
    let names = c.args.job.now.names.captures.items in
    let gs = groups_of job.window (by_stamp c.args.list.now.items) in
    IfOk-weaker c.closed.result _ _ (λ text lines.
    whole_report job names c.args.list.now.items c.args.counts.now.items text.items refl
    (lines gs c.in_ok-written.ensures ∙ ap (λ (n : ℕ). lines_of names job.query job.profile gs c.args.counts.now.items n) c.len.ensures))
    c.closed.ensures
