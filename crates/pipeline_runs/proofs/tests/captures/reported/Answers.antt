use Rattle.std.proofs.Common.{◌∙◌}
use Rattle.std.proofs.lemmas.List.{length-map}
use Rattle.summary_spec.specs.Job.{declared_of}
use Rattle.job_inputs.proofs.JobCaptures.{as_many_files}
use Rattle.pipeline_runs.proofs.Gathered.{as_many_counts, gathered_reportable}
use Rattle.pipeline_runs.proofs.tests.captures.reported.Goals as goal

pub central_text-requires-clause-list : goal.central_text-requires-clause-list
central_text-requires-clause-list g c =
    let job = declared_of c.args.job.now in
    let gathered = c.in_ok-gathered.gathered in
    gathered_reportable job (g.F.Folder.seen c.args.folder.now) (g.F.Folder.seen c.gather_captures.new.folder)
    gathered.accepted.items gathered.counts.items c.args.job.now.lawful c.accepted_reportable.ensures c.in_ok-gathered.ensures.ends

pub central_text-requires-clause-counts : goal.central_text-requires-clause-counts
central_text-requires-clause-counts g c =
    let job = declared_of c.args.job.now in
    let gathered = c.in_ok-gathered.gathered in
    as_many_counts job job.files (g.F.Folder.seen c.args.folder.now) (g.F.Folder.seen c.gather_captures.new.folder)
    gathered.accepted.items gathered.counts.items c.in_ok-gathered.ensures.ends
    ∙ length-map c.args.job.now.files.items (λ list. list.items) ∙ as_many_files c.args.job.now
