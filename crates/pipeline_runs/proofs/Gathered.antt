-- What was gathered of a job's captures can be reported.
use Rattle.std.proofs.Common.{ℕ, suc, List, [], ◌∷◌, ◌≡◌, ◌+◌, ◌∙◌, length, refl, sym, ap, subst, arith}
use Rattle.central_report.specs.Laws.{AcceptedAreReportable, AreReportable}
use Rattle.central_report.specs.Report.{counts_from}
use Rattle.ds_base.specs.Outside.{FolderSeen}
use Rattle.ds_base.specs.declared.capture.Counts.{Counts}
use Rattle.ds_base.specs.declared.summary.Summary.{Summary}
use Rattle.job_inputs.specs.Captures.{GathersCaptures}
use Rattle.summary_spec.specs.Declaration.{Declared}
use Rattle.summary_spec.specs.Lawful.{IsLawful}

length-counts : (job : Declared) (capture : ℕ) (files : List (List ℕ)) → length (counts_from job capture files) ≡ length files
length-counts job capture [] = refl
length-counts job capture (file ∷ files) = ap suc (length-counts job (capture + 1) files)

-- there are counts for each capture
pub as_many_counts : (job : Declared) (names : List (List ℕ)) (before after : FolderSeen) (list : List Summary) (counts : List Counts)
    → GathersCaptures job names before after list counts → length counts ≡ length names
as_many_counts job names before after list counts h = ap length h.counted ∙ length-counts job 0 h.given ∙ h.as_many

-- and where all summaries of a job's captures can be reported, so can those
pub gathered_reportable : (job : Declared) (before after : FolderSeen) (list : List Summary) (counts : List Counts) → IsLawful job
    → AcceptedAreReportable → GathersCaptures job job.files before after list counts → AreReportable job list
gathered_reportable job before after list counts lawful all h =
    let P : List Summary → Type 0 = λ ss. AreReportable job ss in
    subst P (sym h.accepted) (all job h.given lawful (omega (arith, h.as_many, lawful.files)))
