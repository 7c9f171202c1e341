-- How the writing of a job's report ends, by what was read of its captures.
use Rattle.std.proofs.Common.{ℕ, List, [], ◌∷◌, ◌++◌, ◌≡◌, ◌<◌, ◌∙◌, Option, Some, None, Result, Ok, Err, MatchResult, refl, sym, ap, subst, arith}
use Rattle.std.specs.Prelude.{IsTrue, OnOk}
use Rattle.command_words.specs.Words.Asked.{AskedCount}
use Rattle.ds_base.specs.Faults.{Rose}
use Rattle.ds_base.specs.Gain.{GainsPrefix}
use Rattle.ds_base.specs.Outside.{FolderSeen, SinkSeen, file_named}
use Rattle.field_table.specs.declared.field_ref.FieldRef.{FieldRef}
use Rattle.central_report.specs.Report.{report}
use Rattle.summary_spec.specs.CountJob.{count_job}
use Rattle.summary_spec.specs.Declaration.{Declared}
use Rattle.job_inputs.specs.Captures.{AreFiles, AreSound, IsUnreadAt}
use Rattle.job_inputs.specs.declared.fault.CapturesFault.TheVariants.{Malformed, Unread, OutOfMemory}
use Rattle.job_inputs.specs.declared.fault.ReportFault.{ReportFault}
use Rattle.job_inputs.specs.declared.fault.ReportFault.TheVariants.{Captures, Unwritten}
use Rattle.dshark_cli.specs.Faults.{of_count}
use Rattle.job_inputs.proofs.Reporting.{all_sound, report_is}
use Rattle.job_inputs.specs.Reports.{report_in, AreAllSound, WritesReport}
use Rattle.dshark_cli.specs.Reports.{ReportsCaptures, StopsReport}
use Rattle.dshark_cli.specs.Rooms.{room_of}
use Rattle.dshark_cli.specs.Run.{EndsOk, EndsBy}

-- ---- the writing

-- a front of the text is one of the report
pub report_prefix : (job : Declared) (before after : FolderSeen) (old new text piece : List ℕ) → ReportsCaptures job before after text
    → piece ≡ text → IsTrue before.told → GainsPrefix old new piece → GainsPrefix old new (report_in before job)
report_prefix job before after old new text piece reports is told gained =
    let P : List ℕ → Type 0 = λ due. GainsPrefix old new due in
    subst P (is ∙ reports.says ∙ sym (report_is before job reports.given (reports.files told))) gained

-- how it ends with its write
pub report_whole : (job : Declared) (before after : FolderSeen) (old new : SinkSeen) (text piece : List ℕ) → ReportsCaptures job before after text
    → piece ≡ text → new.faults ≡ old.faults → (IsTrue old.told → new.written ≡ old.written ++ piece) → WritesReport job before after old new
report_whole job before after old new text piece reports is quiet written = record {
  folder_quiet = reports.faults;
  out_quiet = quiet;
  sound = λ told. all_sound before job.files reports.given (reports.files told) reports.sound;
  whole = λ told out. written out ∙ ap (λ due. old.written ++ due) (is ∙ reports.says ∙ sym (report_is before job reports.given (reports.files told)));
}

-- and what is known of the captures then
pub report_sound : (job : Declared) (before after : FolderSeen) (text : List ℕ) → ReportsCaptures job before after text → IsTrue before.told
    → AreAllSound before job.files
report_sound job before after text reports told = all_sound before job.files reports.given (reports.files told) reports.sound

-- ---- `count`

-- what is due is the report of the job of `count`
pub due_of_count : (job : Declared) (folder : FolderSeen) (field : FieldRef) (window : ℕ) (file : List ℕ) → job ≡ count_job field window file
    → report_in folder job ≡ (room_of (AskedCount field window file)).due folder
due_of_count job folder field window file is = ap (report_in folder) is

pub count_prefix : (job : Declared) (folder : FolderSeen) (field : FieldRef) (window : ℕ) (file old new : List ℕ) → job ≡ count_job field window file
    → GainsPrefix old new (report_in folder job) → GainsPrefix old new ((room_of (AskedCount field window file)).due folder)
count_prefix job folder field window file old new is gained =
    let P : List ℕ → Type 0 = λ due. GainsPrefix old new due in
    subst P (due_of_count job folder field window file is) gained

pub count_ok : (job : Declared) (field : FieldRef) (window : ℕ) (file : List ℕ) (before after : FolderSeen) (old new : SinkSeen)
    → job ≡ count_job field window file → WritesReport job before after old new → EndsOk (room_of (AskedCount field window file)) before after old new
count_ok job field window file before after old new is writes = record {
  folder_quiet = writes.folder_quiet;
  out_quiet = writes.out_quiet;
  leaves = λ none. absurd (let no : 1 ≡ 0 = none in cc);
  sound = λ told. (tt, subst (λ (j : Declared). AreAllSound before j.files) is (writes.sound told));
  whole = λ told out. writes.whole told out ∙ ap (λ text. old.written ++ text) (due_of_count job before field window file is);
}

-- the number of the only capture
only_number : (k : ℕ) → k < 1 → k ≡ 0
only_number k less = omega (arith, less)

stops_of_count : (field : FieldRef) (window : ℕ) (file : List ℕ) (before after : FolderSeen) (old new : SinkSeen) (fault : ReportFault)
    → StopsReport (count_job field window file) before after old new fault
    → EndsBy (room_of (AskedCount field window file)) before after old new (of_count fault)
stops_of_count field window file before after old new (Captures (Malformed capture at what)) (h, waited) =
    (h.1, h.0, h.2, (λ told out. tt), λ out. waited)
stops_of_count field window file before after old new (Captures (Unread capture)) (h, waited) = (
  omega arith,
  (λ told. subst (λ (k : ℕ). IsUnreadAt before after (file ∷ []) k) (only_number capture h.0) (h.1 told)),
  (λ out. waited),
)
stops_of_count field window file before after old new (Captures OutOfMemory) (h, waited) =
    ((λ none. absurd (let no : 1 ≡ 0 = none in cc)), λ out. waited)
stops_of_count field window file before after old new Unwritten h = (h.0, h.1, (λ none. absurd (let no : 1 ≡ 0 = none in cc)), λ told. (tt, h.2 told))

pub count_stops : (job : Declared) (field : FieldRef) (window : ℕ) (file : List ℕ) (before after : FolderSeen) (old new : SinkSeen) (fault : ReportFault)
    → job ≡ count_job field window file → StopsReport job before after old new fault
    → EndsBy (room_of (AskedCount field window file)) before after old new (of_count fault)
count_stops job field window file before after old new fault is stops =
    stops_of_count field window file before after old new fault (subst (λ (j : Declared). StopsReport j before after old new fault) is stops)
