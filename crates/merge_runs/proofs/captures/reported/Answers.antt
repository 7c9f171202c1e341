-- What was gathered of a job's captures can be reported, and so its stamps differ.
use Rattle.std.proofs.Common.{ℕ, suc, List, [], ◌∷◌, ◌≡◌, ◌+◌, ◌∙◌, length, refl, sym, ap, subst, arith}
use Rattle.std.proofs.lemmas.List.{length-map}
use Rattle.central_report.specs.Laws.{AcceptedAreReportable, AreReportable}
use Rattle.central_report.specs.Report.{counts_from}
use Rattle.ds_base.specs.Outside.{FolderSeen}
use Rattle.ds_base.specs.declared.capture.Counts.{Counts}
use Rattle.ds_base.specs.declared.summary.Summary.{Summary}
use Rattle.job_inputs.specs.Captures.{GathersCaptures}
use Rattle.job_inputs.proofs.JobCaptures.{as_many_files}
use Rattle.summary_spec.specs.Declaration.{Declared}
use Rattle.summary_spec.specs.Job.{declared_of}
use Rattle.summary_spec.specs.Lawful.{IsLawful}
use Rattle.merge_runs.proofs.captures.reported.Goals as goal

length-counts : (job : Declared) (capture : ℕ) (files : List (List ℕ)) → length (counts_from job capture files) ≡ length files
length-counts job capture [] = refl
length-counts job capture (file ∷ files) = ap suc (length-counts job (capture + 1) files)

as_many_counts : (job : Declared) (names : List (List ℕ)) (before after : FolderSeen) (list : List Summary) (counts : List Counts)
    → GathersCaptures job names before after list counts → length counts ≡ length names
as_many_counts job names before after list counts h = ap length h.counted ∙ length-counts job 0 h.given ∙ h.as_many

are_reportable : (job : Declared) (before after : FolderSeen) (list : List Summary) (counts : List Counts) → IsLawful job
    → AcceptedAreReportable → GathersCaptures job job.files before after list counts → AreReportable job list
are_reportable job before after list counts lawful all h =
    let P : List Summary → Type 0 = λ ss. AreReportable job ss in
    subst P (sym h.accepted) (all job h.given lawful (omega (arith, h.as_many, lawful.files)))

pub central_text-requires-clause-list : goal.central_text-requires-clause-list
central_text-requires-clause-list g c =
    let job = declared_of c.args.job.now in
    let gathered = c.in_ok-gathered.gathered in
    are_reportable job (g.F.Folder.seen c.args.folder.now) (g.F.Folder.seen c.gather_captures.new.folder)
    gathered.accepted.items gathered.counts.items c.args.job.now.lawful c.accepted_reportable.ensures c.in_ok-gathered.ensures.ends

pub central_text-requires-clause-counts : goal.central_text-requires-clause-counts
central_text-requires-clause-counts g c =
    let job = declared_of c.args.job.now in
    let gathered = c.in_ok-gathered.gathered in
    as_many_counts job job.files (g.F.Folder.seen c.args.folder.now) (g.F.Folder.seen c.gather_captures.new.folder)
    gathered.accepted.items gathered.counts.items c.in_ok-gathered.ensures.ends
    ∙ length-map c.args.job.now.files.items (λ list. list.items) ∙ as_many_files c.args.job.now
