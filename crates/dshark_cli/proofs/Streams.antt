-- How `run` ends, by how its job was read and its report written.
use Rattle.std.proofs.Common.{ℕ, List, [], ◌≡◌, ◌<◌, ◌+◌, ◌∙◌, false, true, Option, Some, None, Ok, length, refl, sym, ap, subst, inl, arith}
use Rattle.std.specs.Prelude.{IsTrue, slice_get}
use Rattle.std.proofs.lemmas.List.{length-map}
use Rattle.command_words.specs.Words.Asked.{AskedRun}
use Rattle.command_words.specs.declared.command.Sizes.{Sizes}
use Rattle.ds_base.specs.Outside.{FolderSeen, FolderStays, SinkSeen, file_named}
use Rattle.ds_base.specs.declared.capture.PcapFault.{PcapFault}
use Rattle.summary_spec.specs.declared.job.Job.{Job}
use Rattle.summary_spec.specs.Declaration.{Declared}
use Rattle.summary_spec.specs.Job.{declared_of}
use Rattle.summary_spec.specs.Reads.{reads}
use Rattle.input_files.specs.Files.{IsMalformed}
use Rattle.job_inputs.specs.Captures.{AreFiles, AreThere, IsUnreadAt}
use Rattle.job_inputs.specs.JobFile.{ReadsJob, StopsJob}
use Rattle.job_inputs.specs.Jobs.{Declares}
use Rattle.job_inputs.specs.Reports.{WritesReport}
use Rattle.job_inputs.specs.declared.fault.CapturesFault.TheVariants.{Malformed, Unread, OutOfMemory}
use Rattle.job_inputs.specs.declared.fault.JobFileFault.{JobFileFault}
use Rattle.job_inputs.specs.declared.fault.JobFileFault.TheVariants as job
use Rattle.job_inputs.specs.declared.fault.ReportFault.{ReportFault}
use Rattle.job_inputs.specs.declared.fault.ReportFault.TheVariants.{Captures, Unwritten}
use Rattle.job_inputs.proofs.JobCaptures.{as_many_files}
use Rattle.new_pipeline.specs.Shapes.{counts_of}
use Rattle.link_rows.specs.Rows.{RowsSeen}
use Rattle.job_run.specs.Rows.{AreRowsOf, AreBoundBelow}
use Rattle.job_run.proofs.Numbered.{no_rows}
use Rattle.report_run.specs.Streaming.{StopsStream}
use Rattle.run_faults.specs.declared.fault.RunFault.{RunFault}
use Rattle.dshark_cli.specs.Faults.{of_job, of_report}
use Rattle.dshark_cli.specs.Links.{ArePipelines, RowsSay}
use Rattle.dshark_cli.specs.Reports.{IfCapture}
use Rattle.dshark_cli.specs.Rooms.{AJobAndItsCaptures, room_of, captures_of}
use Rattle.dshark_cli.specs.Run.{EndsOk, EndsBy}
use Rattle.dshark_cli.specs.Shapes.{shape_of}
use Rattle.dshark_cli.proofs.Centrals.{same_folder, tells, job_there, few_files, central_ok}
use Rattle.dshark_cli.proofs.Declaring.{captures_declared}
use Rattle.dshark_cli.proofs.Missing.{unread_first, unread_behind}

-- ---- its ends

pub run_ok : (before now after : FolderSeen) (old new : SinkSeen) (name : List ℕ) (sizes : Sizes) (job : Job) → FolderStays before now
    → ReadsJob before now name job → WritesReport (declared_of job) now after old new → EndsOk (room_of (AskedRun name sizes)) before after old new
run_ok before now after old new name sizes job stays read writes =
    let h = central_ok before now after old new name job stays read writes in
    record { folder_quiet = h.folder_quiet; out_quiet = h.out_quiet; leaves = h.leaves; sound = h.sound; whole = h.whole }

pub run_stops : (before now after : FolderSeen) (old new : SinkSeen) (name : List ℕ) (sizes : Sizes) (job : Job) → FolderStays before now
    → ReadsJob before now name job → (fault : ReportFault) → StopsStream (declared_of job) now after old new fault
    → EndsBy (room_of (AskedRun name sizes)) before after old new (of_report fault)
run_stops before now after old new name sizes job stays read (Captures (Malformed capture at what)) h = (
  omega (arith, h.0, few_files job),
  tt,
  (λ told.
      let P : FolderSeen → Type 0 = λ f. (n : List ℕ) × (slice_get (declared_of job).files capture ≡ Some n) × IsMalformed f n at what in
      let Q : List (List ℕ) → Type 0 = λ names. (n : List ℕ) × (slice_get names capture ≡ Some n) × IsMalformed before n at what in
      subst Q (sym (captures_declared before name (declared_of job) (read.declares told)))
      (subst P (same_folder before now stays read.faults told) (h.1 (tells before now stays told)))),
  (λ told out. tt),
  (λ out. tt),
)
run_stops before now after old new name sizes job stays read (Captures (Unread capture)) h = (
  omega (arith, h.0, few_files job),
  (λ told.
      let P : FolderSeen → Type 0 = λ f. IsUnreadAt f after (declared_of job).files capture in
      let Q : List (List ℕ) → Type 0 = λ names. IsUnreadAt before after names capture in
      unread_behind before after name (captures_of (AJobAndItsCaptures name) before) capture (capture + 1) refl (job_there before name (declared_of job) (read.declares told))
      (subst Q (sym (captures_declared before name (declared_of job) (read.declares told)))
      (subst P (same_folder before now stays read.faults told) (h.1 (tells before now stays told))))),
  (λ out. tt),
)
run_stops before now after old new name sizes job stays read (Captures OutOfMemory) h = ((λ none. absurd (let no : 65 ≡ 0 = none in cc)), λ out. tt)
run_stops before now after old new name sizes job stays read Unwritten h = (
  h.0,
  tt,
  (λ none. absurd (let no : 65 ≡ 0 = none in cc)),
  (λ told. (
    (declared_of job, read.declares told),
    subst (AreThere before) (sym (captures_declared before name (declared_of job) (read.declares told)))
        (subst (λ (f : FolderSeen). AreThere f (declared_of job).files) (same_folder before now stays read.faults told) (h.1 (tells before now stays told))),
  )),
)

-- how it ends where the job is not read
pub run_refused : (name : List ℕ) (sizes : Sizes) (before after : FolderSeen) (out : SinkSeen) (fault : JobFileFault) → StopsJob before after name fault
    → EndsBy (room_of (AskedRun name sizes)) before after out out (of_job fault)
run_refused name sizes before after out (job.Bad fault) h = (refl, h.0, h.1, λ told. tt)
run_refused name sizes before after out job.Unread h =
    (omega arith, (λ told. unread_first before after name (captures_of (AJobAndItsCaptures name) before) 0 refl (h told)), λ told. tt)
run_refused name sizes before after out job.OutOfMemory h = ((λ none. absurd (let no : 65 ≡ 0 = none in cc)), λ told. tt)

-- the captures of a report that stops are the job's
pub stream_within : (job : Job) (before after : FolderSeen) (old new : SinkSeen) (fault : ReportFault) → StopsStream (declared_of job) before after old new fault
    → IfCapture fault (λ capture. capture < length job.names.captures.items)
stream_within job before after old new (Captures (Malformed capture at what)) h = omega (arith, h.0, length-map job.files.items (λ list. list.items), as_many_files job)
stream_within job before after old new (Captures (Unread capture)) h = omega (arith, h.0, length-map job.files.items (λ list. list.items), as_many_files job)
stream_within job before after old new (Captures OutOfMemory) h = tt
stream_within job before after old new Unwritten h = tt

-- ---- the rows of its links

-- a file declares one job
one_job : (folder : FolderSeen) (name : List ℕ) (a b : Declared) → Declares folder name a → Declares folder name b → a ≡ b
one_job folder name a b (bytes, file, is) (others, there, also) =
    let same : Some bytes ≡ Some others = sym file ∙ there in
    let one : bytes ≡ others = cc in
    let both : Ok a ≡ Ok b = sym is ∙ ap reads one ∙ also in
    cc

pub run_rows : (before now : FolderSeen) (name : List ℕ) (sizes : Sizes) (job : Job) (ended : Option RunFault) (rows : RowsSeen) → FolderStays before now → ReadsJob before now name job
    → AreRowsOf (counts_of (shape_of sizes)) sizes.credits rows → (ended ≡ None → rows.done ≡ true)
    → ((files : List (List ℕ)) → IsTrue now.told → AreFiles now (declared_of job).files files → AreBoundBelow (declared_of job) files (counts_of (shape_of sizes)) rows)
    → RowsSay (AskedRun name sizes) before ended rows
run_rows before now name sizes job ended rows stays read are done bound = (
  record { rows_are = are; done = done },
  λ declared files told declares named.
      let same : declared_of job ≡ declared = one_job before name (declared_of job) declared (read.declares told) declares in
      let folder : now ≡ before = same_folder before now stays read.faults told in
      let named' : AreFiles now (declared_of job).files files =
      subst (λ (f : FolderSeen). AreFiles f (declared_of job).files files) (sym folder) (subst (λ (d : Declared). AreFiles before d.files files) (sym same) named) in
      subst (λ (d : Declared). AreBoundBelow d files (counts_of (shape_of sizes)) rows) same (bound files (tells before now stays told) named'),
)

-- those of no pipeline
pub no_run_rows : (folder : FolderSeen) (name : List ℕ) (sizes : Sizes) (fault : RunFault) (rows : RowsSeen) → rows.rows ≡ [] → rows.done ≡ false
    → RowsSay (AskedRun name sizes) folder (Some fault) rows
no_run_rows folder name sizes fault rows none not_done = (
  record {
    rows_are = no_rows (counts_of (shape_of sizes)) sizes.credits rows none (λ is. let no : false ≡ true = sym not_done ∙ is in absurd (cc));
    done = λ is. absurd (let no : Some fault ≡ None = is in cc);
  },
  λ declared files told declares named is. absurd (let no : false ≡ true = sym not_done ∙ is in cc),
)
