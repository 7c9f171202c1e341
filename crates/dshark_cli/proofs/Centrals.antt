-- How `central` ends, by how its job was read and its report written.
use Rattle.std.proofs.Common.{ℕ, ◌<◌, ◌+◌, List, [], ◌∷◌, ◌++◌, ◌≡◌, ◌≤◌, ◌∙◌, Bool, true, zero, suc, Some, None, refl, sym, ap, subst, length, arith}
use Rattle.std.specs.Prelude.{IsTrue, slice_get}
use Rattle.std.proofs.lemmas.List.{length-map}
use Rattle.command_words.specs.Words.Asked.{AskedCentral}
use Rattle.ds_base.specs.Gain.{GainsPrefix}
use Rattle.ds_base.specs.Items.{Items}
use Rattle.ds_base.specs.Outside.{FolderSeen, FolderStays, NamedBytes, SinkSeen}
use Rattle.summary_spec.specs.declared.job.Job.{Job}
use Rattle.summary_spec.specs.Declaration.{Declared, items_of}
use Rattle.summary_spec.specs.Job.{declared_of}
use Rattle.job_table.specs.Words.{is_identifier}
use Rattle.summary_spec.proofs.CaptureNames.{captures_new}
use Rattle.job_text.proofs.NewNames.{AllNew}
use Rattle.job_text.proofs.Lengths.{identifier_short}
use Rattle.input_files.specs.Files.{HasFile}
use Rattle.job_inputs.specs.Captures.{IsFirstMalformed, IsUnreadAt}
use Rattle.job_inputs.specs.JobFile.{ReadsJob, StopsJob}
use Rattle.job_inputs.specs.Jobs.{Declares, IsDeclared}
use Rattle.job_inputs.specs.declared.fault.CapturesFault.TheVariants.{Malformed, Unread, OutOfMemory}
use Rattle.job_inputs.specs.declared.fault.JobFileFault.{JobFileFault}
use Rattle.job_inputs.specs.declared.fault.JobFileFault.TheVariants as job
use Rattle.run_faults.specs.declared.fault.RunFault.{RunFault}
use Rattle.job_inputs.specs.declared.fault.ReportFault.{ReportFault}
use Rattle.job_inputs.specs.declared.fault.ReportFault.TheVariants.{Captures, Unwritten}
use Rattle.dshark_cli.specs.Faults.{of_job, of_report}
use Rattle.dshark_cli.specs.Naming.{IfMalformed, IsNameAt, NamesFault}
use Rattle.job_inputs.specs.Reports.{report_in, AreAllSound, WritesReport}
use Rattle.dshark_cli.specs.Reports.{StopsReport, IfCapture}
use Rattle.dshark_cli.specs.Rooms.{AJobAndItsCaptures, room_of, captures_of, IsSound}
use Rattle.dshark_cli.specs.Run.{EndsOk, EndsBy}
use Rattle.dshark_cli.proofs.Declaring.{captures_declared, names_declared, report_declared}
use Rattle.job_inputs.proofs.JobCaptures.{as_many_files}
use Rattle.job_inputs.proofs.Missing.{has_file}
use Rattle.dshark_cli.proofs.Missing.{unread_first, unread_behind}

-- ---- the folder behind the reading of the job

-- a folder that tells is as it was, where nothing of it failed
pub same_folder : (before now : FolderSeen) → FolderStays before now → now.faults ≡ before.faults → IsTrue before.told → now ≡ before
same_folder before now stays quiet told =
    ap (λ (t : Bool). record { told = t; files = now.files; faults = now.faults }) stays.told
    ∙ ap (λ (files : List NamedBytes). record { told = before.told; files = files; faults = now.faults }) (stays.files told)
    ∙ ap (λ (n : ℕ). record { told = before.told; files = before.files; faults = n }) quiet

pub tells : (before now : FolderSeen) → FolderStays before now → IsTrue before.told → IsTrue now.told
tells before now stays told = rw stays.told told

-- ---- its ends

pub central_prefix : (before now : FolderSeen) (name old new : List ℕ) (job : Job) → FolderStays before now → ReadsJob before now name job
    → (IsTrue now.told → GainsPrefix old new (report_in now (declared_of job))) → IsTrue before.told
    → GainsPrefix old new ((room_of (AskedCentral name)).due before)
central_prefix before now name old new job stays read gained told =
    let P : List ℕ → Type 0 = λ due. GainsPrefix old new due in
    subst P (ap (λ (f : FolderSeen). report_in f (declared_of job)) (same_folder before now stays read.faults told) ∙ sym (report_declared before name (declared_of job) (read.declares told)))
    (gained (tells before now stays told))

sound_job : (before now : FolderSeen) (name : List ℕ) (job : Job) → FolderStays before now → ReadsJob before now name job
    → (IsTrue now.told → AreAllSound now (declared_of job).files) → IsTrue before.told → IsSound (AJobAndItsCaptures name) before
sound_job before now name job stays read sound told = (
  (declared_of job, read.declares told),
  subst (AreAllSound before) (sym (captures_declared before name (declared_of job) (read.declares told)))
      (subst (λ (f : FolderSeen). AreAllSound f (declared_of job).files) (same_folder before now stays read.faults told) (sound (tells before now stays told))),
)

pub central_ok : (before now after : FolderSeen) (old new : SinkSeen) (name : List ℕ) (job : Job) → FolderStays before now
    → ReadsJob before now name job → WritesReport (declared_of job) now after old new → EndsOk (room_of (AskedCentral name)) before after old new
central_ok before now after old new name job stays read writes = record {
  folder_quiet = writes.folder_quiet ∙ read.faults;
  out_quiet = writes.out_quiet;
  leaves = λ none. absurd (let no : 65 ≡ 0 = none in cc);
  sound = sound_job before now name job stays read writes.sound;
  whole = λ told out.
      writes.whole (tells before now stays told) out
      ∙ ap (λ (f : FolderSeen). old.written ++ report_in f (declared_of job)) (same_folder before now stays read.faults told)
      ∙ ap (λ text. old.written ++ text) (sym (report_declared before name (declared_of job) (read.declares told)));
}

-- a job has at most 64 captures
pub few_files : (job : Job) → length (declared_of job).files ≤ 64
few_files job = omega (arith, job.lawful.files, job.lawful.captures.1)

-- the file of a job that is declared is there
pub job_there : (folder : FolderSeen) (name : List ℕ) (declared : Declared) → Declares folder name declared → HasFile folder name
job_there folder name declared (bytes, file, is) = has_file folder name bytes file

pub central_stops : (before now after : FolderSeen) (old new : SinkSeen) (name : List ℕ) (job : Job) → FolderStays before now
    → ReadsJob before now name job → (fault : ReportFault) → StopsReport (declared_of job) now after old new fault
    → EndsBy (room_of (AskedCentral name)) before after old new (of_report fault)
central_stops before now after old new name job stays read (Captures (Malformed capture at what)) (h, waited) = (
  omega (arith, h.1, few_files job),
  h.0 ∙ read.faults,
  (λ told.
      let P : FolderSeen → Type 0 = λ f. IsFirstMalformed f (declared_of job).files capture at what in
      let Q : List (List ℕ) → Type 0 = λ names. IsFirstMalformed before names capture at what in
      subst Q (sym (captures_declared before name (declared_of job) (read.declares told)))
      (subst P (same_folder before now stays read.faults told) (h.2 (tells before now stays told)))),
  (λ told out. tt),
  (λ out. waited),
)
central_stops before now after old new name job stays read (Captures (Unread capture)) (h, waited) = (
  omega (arith, h.0, few_files job),
  (λ told.
      let P : FolderSeen → Type 0 = λ f. IsUnreadAt f after (declared_of job).files capture in
      let Q : List (List ℕ) → Type 0 = λ names. IsUnreadAt before after names capture in
      unread_behind before after name (captures_of (AJobAndItsCaptures name) before) capture (capture + 1) refl (job_there before name (declared_of job) (read.declares told))
      (subst Q (sym (captures_declared before name (declared_of job) (read.declares told)))
      (subst P (same_folder before now stays read.faults told) (h.1 (tells before now stays told))))),
  (λ out. waited),
)
central_stops before now after old new name job stays read (Captures OutOfMemory) (h, waited) =
    ((λ none. absurd (let no : 65 ≡ 0 = none in cc)), λ out. waited)
central_stops before now after old new name job stays read Unwritten h =
    (h.0, h.1 ∙ read.faults, (λ none. absurd (let no : 65 ≡ 0 = none in cc)), sound_job before now name job stays read h.2)

-- how it ends where the job is not read
pub central_refused : (name : List ℕ) (before after : FolderSeen) (out : SinkSeen) (fault : JobFileFault) → StopsJob before after name fault
    → EndsBy (room_of (AskedCentral name)) before after out out (of_job fault)
central_refused name before after out (job.Bad fault) h = (refl, h.0, h.1, λ told. refl)
central_refused name before after out job.Unread h =
    (omega arith, (λ told. unread_first before after name (captures_of (AJobAndItsCaptures name) before) 0 refl (h told)), λ told. refl)
central_refused name before after out job.OutOfMemory h = ((λ none. absurd (let no : 65 ≡ 0 = none in cc)), λ told. refl)

-- ---- the name of the capture

-- a fault of the job's file has no capture
pub refused_named : (file name : List ℕ) (before : FolderSeen) (fault : JobFileFault) → NamesFault (AJobAndItsCaptures file) before name (of_job fault)
refused_named file name before (job.Bad fault) = tt
refused_named file name before job.Unread = tt
refused_named file name before job.OutOfMemory = tt

-- the name of the job's capture is the one that the folder's file gives it
named_at : (before : FolderSeen) (file : List ℕ) (declared : Declared) (name : List ℕ) (fault : ReportFault)
    → (IsTrue before.told → Declares before file declared) → IfMalformed (of_report fault) (IsNameAt declared.captures name)
    → NamesFault (AJobAndItsCaptures file) before name (of_report fault)
named_at before file declared name (Captures (Malformed capture at what)) declares h = (
  h.0,
  λ told. ap (λ (names : List (List ℕ)). slice_get names capture) (names_declared before file declared (declares told)) ∙ h.1,
)
named_at before file declared name (Captures (Unread capture)) declares h = tt
named_at before file declared name (Captures OutOfMemory) declares h = tt
named_at before file declared name Unwritten declares h = tt

pub central_named : (before : FolderSeen) (file : List ℕ) (declared : Declared) (name : List ℕ) (fault : ReportFault) (shown : RunFault)
    → (IsTrue before.told → Declares before file declared) → shown ≡ of_report fault → IfMalformed (of_report fault) (IsNameAt declared.captures name)
    → NamesFault (AJobAndItsCaptures file) before name shown
central_named before file declared name fault shown declares is h =
    subst (NamesFault (AJobAndItsCaptures file) before name) (sym is) (named_at before file declared name fault declares h)

-- the captures of a report that stops are the job's
pub stops_within : (job : Job) (before after : FolderSeen) (old new : SinkSeen) (fault : ReportFault) → StopsReport (declared_of job) before after old new fault
    → IfCapture fault (λ capture. capture < length job.names.captures.items)
stops_within job before after old new (Captures (Malformed capture at what)) (h, waited) =
    omega (arith, h.1, length-map job.files.items (λ list. list.items), as_many_files job)
stops_within job before after old new (Captures (Unread capture)) (h, waited) =
    omega (arith, h.0, length-map job.files.items (λ list. list.items), as_many_files job)
stops_within job before after old new (Captures OutOfMemory) h = tt
stops_within job before after old new Unwritten h = tt

-- ---- names that are read

item_at : (texts : List (Items ℕ)) (i : ℕ) (text : Items ℕ) → slice_get texts i ≡ Some text → slice_get (items_of texts) i ≡ Some text.items
item_at [] i text at = absurd (let no : None ≡ Some text = at in cc)
item_at (t ∷ texts) zero text at = ap (λ (x : Items ℕ). Some x.items) (let e : Some t ≡ Some text = at in let same : t ≡ text = cc in same)
item_at (t ∷ texts) (suc i) text at = item_at texts i text at

identifier_at : (earlier names : List (List ℕ)) (i : ℕ) (name : List ℕ) → AllNew is_identifier earlier names → slice_get names i ≡ Some name
    → is_identifier name ≡ true
identifier_at earlier [] i name new at = absurd (let no : None ≡ Some name = at in cc)
identifier_at earlier (n ∷ names) zero name new at =
    let e : Some n ≡ Some name = at in let same : n ≡ name = cc in subst (λ (x : List ℕ). is_identifier x ≡ true) same new.0
identifier_at earlier (n ∷ names) (suc i) name new at = identifier_at (earlier ++ n ∷ []) names i name new.2 at

-- the name of a capture of a job that was read
pub name_at : (job : Job) (capture : ℕ) (text : Items ℕ) (name : List ℕ) → IsDeclared (declared_of job)
    → slice_get job.names.captures.items capture ≡ Some text → name ≡ text.items → IsNameAt (declared_of job).captures name capture
name_at job capture text name declared at is =
    let there : slice_get (declared_of job).captures capture ≡ Some name = item_at job.names.captures.items capture text at ∙ ap (λ (x : List ℕ). Some x) (sym is) in
    (identifier_at [] (declared_of job).captures capture name (captures_new declared.0 (declared_of job) declared.1) there, there)

pub name_short : (job : Job) (capture : ℕ) (text : Items ℕ) (name : List ℕ) → IsDeclared (declared_of job)
    → slice_get job.names.captures.items capture ≡ Some text → name ≡ text.items → length name ≤ 32
name_short job capture text name declared at is = identifier_short name (name_at job capture text name declared at is).0
