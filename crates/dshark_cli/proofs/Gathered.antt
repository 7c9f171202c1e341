-- The report over what was gathered of all captures of a job.
use Rattle.std.proofs.Common.{ℕ, suc, List, [], ◌∷◌, ◌≡◌, ◌+◌, ◌∙◌, length, refl, sym, ap, subst, arith}
use Rattle.central_report.specs.Laws.{AcceptedAreReportable, AreReportable}
use Rattle.central_report.specs.Report.{accepted_from, counts_from, report_over}
use Rattle.ds_base.specs.Outside.{FolderSeen}
use Rattle.ds_base.specs.declared.capture.Counts.{Counts}
use Rattle.ds_base.specs.declared.summary.Summary.{Summary}
use Rattle.job_inputs.specs.Captures.{GathersCaptures}
use Rattle.summary_spec.specs.Declaration.{Declared}
use Rattle.summary_spec.specs.Lawful.{IsLawful}
use Rattle.window_grouper.specs.Sorted.{by_stamp}
use Rattle.dshark_cli.specs.Reports.{ReportsCaptures}

-- the text over what was gathered of all captures is the report
pub reports : (job : Declared) (before after : FolderSeen) (text : List ℕ) (list : List Summary) (counts : List Counts)
    → GathersCaptures job job.files before after list counts → text ≡ report_over job (by_stamp list) counts
    → ReportsCaptures job before after text
reports job before after text list counts h says = record {
  faults = h.faults;
  given = h.given;
  as_many = h.as_many;
  sound = h.sound;
  says = says ∙ ap (λ ss. report_over job (by_stamp ss) counts) h.accepted
      ∙ ap (λ cs. report_over job (by_stamp (accepted_from job 0 h.given)) cs) h.counted;
  files = h.files;
}

length-counts : (job : Declared) (capture : ℕ) (files : List (List ℕ)) → length (counts_from job capture files) ≡ length files
length-counts job capture [] = refl
length-counts job capture (file ∷ files) = ap suc (length-counts job (capture + 1) files)

-- there are counts for each capture
pub as_many_counts : (job : Declared) (names : List (List ℕ)) (before after : FolderSeen) (list : List Summary) (counts : List Counts)
    → GathersCaptures job names before after list counts → length counts ≡ length names
as_many_counts job names before after list counts h = ap length h.counted ∙ length-counts job 0 h.given ∙ h.as_many

-- and where all summaries of a job's captures can be reported, so can those
pub gathered_reportable : (job : Declared) (before after : FolderSeen) (list : List Summary) (counts : List Counts) → IsLawful job
    → AcceptedAreReportable → GathersCaptures job job.files before after list counts → AreReportable job list
gathered_reportable job before after list counts lawful all h =
    let P : List Summary → Type 0 = λ ss. AreReportable job ss in
    subst P (sym h.accepted) (all job h.given lawful (omega (arith, h.as_many, lawful.files)))
