-- How `check` ends, by how its job was read and its text written.
use Rattle.std.proofs.Common.{ℕ, List, [], ◌++◌, ◌≡◌, ◌∙◌, Option, Some, Result, Ok, Err, MatchResult, refl, sym, ap, subst, arith}
use Rattle.std.specs.Prelude.{IsTrue, OnOk, option_map, codes}
use Rattle.ds_base.specs.Faults.{Rose}
use Rattle.command_words.specs.Words.Asked.{AskedCheck}
use Rattle.ds_base.specs.Gain.{GainsPrefix}
use Rattle.ds_base.specs.Outside.{FolderSeen, SinkSeen}
use Rattle.summary_spec.specs.declared.job.Job.{Job}
use Rattle.summary_spec.specs.Canonical.{canonical}
use Rattle.summary_spec.specs.Declaration.{Declared}
use Rattle.summary_spec.specs.Job.{declared_of}
use Rattle.summary_spec.specs.Reads.{reads}
use Rattle.run_faults.specs.declared.fault.RunFault.{RunFault}
use Rattle.run_faults.specs.declared.fault.RunFault.TheVariants.{WriteFault}
use Rattle.job_inputs.specs.JobFile.{ReadsJob, StopsJob}
use Rattle.job_inputs.specs.Jobs.{Declares}
use Rattle.job_inputs.specs.declared.fault.JobFileFault.{JobFileFault}
use Rattle.job_inputs.specs.declared.fault.JobFileFault.TheVariants as job
use Rattle.dshark_cli.specs.Faults.{of_job}
use Rattle.dshark_cli.specs.Said.{canonical_said}
use Rattle.dshark_cli.proofs.Missing.{unread_first}
use Rattle.dshark_cli.specs.Rooms.{room_of}
use Rattle.dshark_cli.specs.Run.{EndsOk, EndsBy}

-- what is due of a job that is accepted
due_of_job : (folder : FolderSeen) (name : List ℕ) (declared : Declared) → Declares folder name declared
    → (room_of (AskedCheck name)).due folder ≡ canonical declared ++ codes "\n"
due_of_job folder name declared (bytes, file, is) =
    ap (λ (found : Option (List ℕ)). canonical_said (option_map reads found)) file ∙ ap (λ said. canonical_said (Some said)) is

-- a front of the text of the job is one of what is due
pub check_prefix : (folder : FolderSeen) (name : List ℕ) (declared : Declared) (old new text : List ℕ) → Declares folder name declared
    → text ≡ canonical declared ++ codes "\n" → GainsPrefix old new text → GainsPrefix old new ((room_of (AskedCheck name)).due folder)
check_prefix folder name declared old new text has is gained =
    let P : List ℕ → Type 0 = λ due. GainsPrefix old new due in
    subst P (is ∙ sym (due_of_job folder name declared has)) gained

-- how `check` ends with its write
pub check_ends : (before after : FolderSeen) (name : List ℕ) (old new : SinkSeen) (job : Job) (text : List ℕ) (result : Result (Unit {0}) RunFault)
    → ReadsJob before after name job → text ≡ canonical (declared_of job) ++ codes "\n"
    → MatchResult result (λ _. new.faults ≡ old.faults) (λ fault. (fault ≡ WriteFault) × Rose old.faults new.faults)
    → (IsTrue old.told → OnOk result (new.written ≡ old.written ++ text))
    → MatchResult result (λ _. EndsOk (room_of (AskedCheck name)) before after old new) (EndsBy (room_of (AskedCheck name)) before after old new)
check_ends before after name old new job text (Ok done) read is quiet written = record {
  folder_quiet = read.faults;
  out_quiet = quiet;
  leaves = λ none. absurd (let no : 1 ≡ 0 = none in cc);
  sound = λ folder. ((declared_of job, read.declares folder), tt);
  whole = λ folder out. written out ∙ ap (λ t. old.written ++ t) (is ∙ sym (due_of_job before name (declared_of job) (read.declares folder)));
}
check_ends before after name old new job text (Err fault) read is failed written =
    subst (EndsBy (room_of (AskedCheck name)) before after old new) (sym failed.0) (failed.1, read.faults, (λ none. absurd (let no : 1 ≡ 0 = none in cc)), λ folder. ((declared_of job, read.declares folder), tt))

-- how it ends where the job is not read
pub check_refused : (name : List ℕ) (before after : FolderSeen) (out : SinkSeen) (fault : JobFileFault) → StopsJob before after name fault
    → EndsBy (room_of (AskedCheck name)) before after out out (of_job fault)
check_refused name before after out (job.Bad fault) h = (refl, h.0, h.1, λ told. refl)
check_refused name before after out job.Unread h = (omega arith, (λ told. unread_first before after name [] 0 refl (h told)), λ told. refl)
check_refused name before after out job.OutOfMemory h = ((λ none. absurd (let no : 1 ≡ 0 = none in cc)), λ told. refl)
