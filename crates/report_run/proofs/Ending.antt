-- How the writing of a report ends, by how the run over the opened captures did.
use Rattle.std.proofs.Common.{ℕ, List, ◌++◌, ◌≡◌, ◌<◌, ◌∙◌, true, Result, Ok, Err, MatchResult, length, sym, ap, subst, inl, refl}
use Rattle.std.specs.Prelude.{IsTrue}
use Rattle.ds_base.specs.Faults.{Rose}
use Rattle.ds_base.specs.Gain.{GainsPrefix}
use Rattle.ds_base.specs.Outside.{FolderSeen, SourceSeen, SinkSeen}
use Rattle.credit_link.specs.declared.turn.NodeFault.{NodeFault}
use Rattle.credit_link.specs.declared.turn.NodeFault.TheVariants.{Malformed, Read, Write, Link, OutOfMemory}
use Rattle.input_files.specs.Files.{AreOpened}
use Rattle.summary_spec.specs.Declaration.{Declared}
use Rattle.run_law.specs.Shapes.{Shape}
use Rattle.link_rows.specs.Rows.{RowsSeen}
use Rattle.job_inputs.specs.Captures.{AreFiles, StopsCaptures}
use Rattle.job_inputs.specs.declared.fault.CapturesFault.{CapturesFault}
use Rattle.job_inputs.specs.declared.fault.CapturesFault.TheVariants as captures
use Rattle.job_inputs.specs.declared.fault.ReportFault.{ReportFault}
use Rattle.job_inputs.specs.declared.fault.ReportFault.TheVariants.{Captures}
use Rattle.job_inputs.specs.Reports.{report_in, WritesReport}
use Rattle.job_inputs.proofs.Opened.{as_many_opened, opened_there}
use Rattle.job_inputs.proofs.Reporting.{all_sound, report_is}
use Rattle.job_run.specs.Ends.{EndsWhole, EndsBy, WritesFront}
use Rattle.job_run.specs.Rows.{AreBoundBelow}
use Rattle.job_run.specs.Sources.{files_of}
use Rattle.report_run.specs.Faults.{of_node}
use Rattle.report_run.specs.Giving.{GivesBack}
use Rattle.report_run.specs.Streaming.{StopsStream}
use Rattle.report_run.proofs.Opened.{all_tell, opened_files, same_files, file_at}

-- where a capture is not opened
pub stops_before : (job : Declared) (before after : FolderSeen) (old : SinkSeen) (fault : CapturesFault) → StopsCaptures job.files before after fault
    → StopsStream job before after old old (Captures fault)
stops_before job before after old (captures.Malformed capture at what) h = (h.1, λ told. let first = h.2 told in (first.0, first.1, first.2))
stops_before job before after old (captures.Unread capture) h = h
stops_before job before after old captures.OutOfMemory h = tt

module _ (job : Declared) (before mid after : FolderSeen) (sources left : List SourceSeen) (old new : SinkSeen)
    (opened : AreOpened before job.files sources) (quiet : mid.faults ≡ before.faults) (as_many : length left ≡ length sources) (given : GivesBack left mid after) where
  -- what is due is the report over the files that the sources tell
  due : IsTrue before.told → report_in before job ≡ Rattle.central_report.specs.Report.report job (files_of sources)
  due told = report_is before job (files_of sources) (opened_files before job.files sources told opened)

  pub prefix : WritesFront job sources old new → IsTrue before.told → IsTrue old.told → GainsPrefix old.written new.written (report_in before job)
  prefix front told out =
      let P : List ℕ → Type 0 = λ text. GainsPrefix old.written new.written text in
      subst P (sym (due told)) (front.front (all_tell before job.files sources told opened) out)

  whole : (rows : RowsSeen) → EndsWhole job sources left old new rows → WritesReport job before after old new
  whole rows h = record {
    folder_quiet = given.quiet h.quiet ∙ quiet;
    out_quiet = h.out_quiet;
    sound = λ told. all_sound before job.files (files_of sources) (opened_files before job.files sources told opened) (h.sound (all_tell before job.files sources told opened));
    whole = λ told out. h.whole (all_tell before job.files sources told opened) out ∙ ap (λ text. old.written ++ text) (sym (due told));
  }

  stops : (bad : NodeFault) → EndsBy sources left old new bad → StopsStream job before after old new (of_node bad)
  stops (Malformed capture bad) h =
      let there = file_at before job.files sources capture opened h.0 in (
        subst (λ (n : ℕ). capture < n) (as_many_opened before job.files sources opened) h.0,
        λ told. (there.name, there.at, (_, there.file told, h.1 (all_tell before job.files sources told opened))),
      )
  stops (Read capture) h =
      let there = file_at before job.files sources capture opened h.0 in
      let d : SourceSeen = record { told = true; whole = Rattle.std.proofs.Common.[]; left = Rattle.std.proofs.Common.[]; faults = 0 } in (
        subst (λ (n : ℕ). capture < n) (as_many_opened before job.files sources opened) h.0,
        λ told. (there.name, there.at, inl (subst (λ (n : ℕ). Rose n after.faults) quiet (given.rose capture d (subst (λ (n : ℕ). capture < n) (sym as_many) h.0) (h.1 d)))),
      )
  stops Write h = (h, λ told. opened_there before job.files sources told opened)
  stops (Link link bad) h = absurd h
  stops OutOfMemory h = tt

  ends_by : {T : Type 0} (ended : Result T NodeFault) (result : Result T ReportFault) (rows : RowsSeen)
      → MatchResult ended (λ _. EndsWhole job sources left old new rows) (EndsBy sources left old new)
      → MatchResult ended (λ done. result ≡ Ok done) (λ bad. result ≡ Err (of_node bad))
      → MatchResult result (λ _. WritesReport job before after old new) (StopsStream job before after old new)
  ends_by {T} (Ok done) result rows h is =
      subst (λ (r : Result T ReportFault). MatchResult r (λ _. WritesReport job before after old new) (StopsStream job before after old new)) (sym is) (whole rows h)
  ends_by {T} (Err bad) result rows h is =
      subst (λ (r : Result T ReportFault). MatchResult r (λ _. WritesReport job before after old new) (StopsStream job before after old new)) (sym is) (stops bad h)

  pub ends : {T : Type 0} (ended : Result T NodeFault) (result : Result T ReportFault) (rows : RowsSeen)
      → MatchResult ended (λ _. EndsWhole job sources left old new rows) (EndsBy sources left old new)
      → MatchResult ended (λ done. result ≡ Ok done) (λ bad. result ≡ Err (of_node bad))
      → MatchResult result (λ _. WritesReport job before after old new) (StopsStream job before after old new)
  ends ended result rows h is = ends_by ended result rows h is

  pub bound : (shape : Shape) (rows : RowsSeen) (files : List (List ℕ)) → IsTrue before.told → AreFiles before job.files files
      → (Rattle.job_run.specs.Sources.AllTell sources → AreBoundBelow job (files_of sources) shape rows) → AreBoundBelow job files shape rows
  bound shape rows files told are h =
      subst (λ (fs : List (List ℕ)). AreBoundBelow job fs shape rows)
      (same_files before job.files (files_of sources) files (opened_files before job.files sources told opened) are) (h (all_tell before job.files sources told opened))
