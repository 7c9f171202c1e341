-- The sources of a folder that were opened, and the files that they tell.
use Rattle.std.proofs.Common.{ℕ, zero, suc, List, [], ◌∷◌, ◌≡◌, ◌<◌, ◌∙◌, true, Some, All, length, map, get_or, refl, sym, arith}
use Rattle.std.specs.Prelude.{IsTrue, slice_get}
use Rattle.std.specs.List.{AllByRecursion}
use Rattle.std.proofs.lemmas.List.{length-map}
use Rattle.std.proofs.lemmas.List.Elements.{All-from_get_or}
use Rattle.ds_base.specs.Outside.{FolderSeen, SourceSeen, IsFresh, file_named}
use Rattle.input_files.specs.Files.{AreOpened}
use Rattle.summary_spec.specs.declared.job.Job.{Job}
use Rattle.summary_spec.specs.Job.{declared_of}
use Rattle.job_inputs.specs.Captures.{AreFiles}
use Rattle.job_inputs.proofs.JobCaptures.{as_many_files}
use Rattle.job_inputs.proofs.Opened.{as_many_opened, are_fresh}
use Rattle.job_inputs.proofs.Reporting.{files_are}
use Rattle.job_run.specs.Sources.{AllTell, files_of}

no_source : SourceSeen
no_source = record { told = true; whole = []; left = []; faults = 0 }

-- what holds of each holds of the one with this number
each_at : (P : SourceSeen → Type 0) (sources : List SourceSeen) (i : ℕ) (d : SourceSeen) → AllByRecursion P sources → i < length sources → P (get_or sources i d)
each_at P [] i d all less = absurd (let none : i < 0 = less in omega (arith, none))
each_at P (s ∷ ss) zero d all less = all.0
each_at P (s ∷ ss) (suc i) d all less = each_at P ss i d all.1 (omega (arith, less))

of_each : (P : SourceSeen → Type 0) (sources : List SourceSeen) → AllByRecursion P sources → All P sources
of_each P sources all = All-from_get_or P sources no_source (λ i less. each_at P sources i no_source all less)

-- nothing of them was read
pub all_fresh : (folder : FolderSeen) (names : List (List ℕ)) (sources : List SourceSeen) → AreOpened folder names sources → All IsFresh sources
all_fresh folder names sources opened = of_each IsFresh sources (are_fresh folder names sources opened)

-- of a folder that tells they tell
tell_each : (folder : FolderSeen) (names : List (List ℕ)) (sources : List SourceSeen) → IsTrue folder.told → AreOpened folder names sources
    → AllByRecursion (λ (s : SourceSeen). IsTrue s.told) sources
tell_each folder [] [] told h = tt
tell_each folder [] (s ∷ ss) told h = absurd h
tell_each folder (n ∷ ns) [] told h = absurd h
tell_each folder (n ∷ ns) (s ∷ ss) told h = ((h.0.1 told).0, tell_each folder ns ss told h.1)

pub all_tell : (folder : FolderSeen) (names : List (List ℕ)) (sources : List SourceSeen) → IsTrue folder.told → AreOpened folder names sources → AllTell sources
all_tell folder names sources told opened = of_each (λ (s : SourceSeen). IsTrue s.told) sources (tell_each folder names sources told opened)

-- and their bytes are those of the files
pub opened_files : (folder : FolderSeen) (names : List (List ℕ)) (sources : List SourceSeen) → IsTrue folder.told → AreOpened folder names sources
    → AreFiles folder names (files_of sources)
opened_files folder [] [] told h = tt
opened_files folder [] (s ∷ ss) told h = absurd h
opened_files folder (n ∷ ns) [] told h = absurd h
opened_files folder (n ∷ ns) (s ∷ ss) told h = ((h.0.1 told).1, opened_files folder ns ss told h.1)

-- which are one list
pub same_files : (folder : FolderSeen) (names a b : List (List ℕ)) → AreFiles folder names a → AreFiles folder names b → a ≡ b
same_files folder names a b x y =
    let both : Some a ≡ Some b = sym (files_are folder names a x) ∙ files_are folder names b y in
    cc

-- the file of one of them
pub record IsFileAt (folder : FolderSeen) (names : List (List ℕ)) (sources : List SourceSeen) (c : ℕ) : Type 0 where
  pub name : List ℕ
  pub at : slice_get names c ≡ Some name
  pub file : IsTrue folder.told → file_named folder.files name ≡ Some (get_or (files_of sources) c [])

pub file_at : (folder : FolderSeen) (names : List (List ℕ)) (sources : List SourceSeen) (c : ℕ) → AreOpened folder names sources → c < length sources
    → IsFileAt folder names sources c
file_at folder [] [] c h less = absurd (let none : c < 0 = less in omega (arith, none))
file_at folder [] (s ∷ ss) c h less = absurd h
file_at folder (n ∷ ns) [] c h less = absurd h
file_at folder (n ∷ ns) (s ∷ ss) zero h less = record { name = n; at = refl; file = λ told. (h.0.1 told).1 }
file_at folder (n ∷ ns) (s ∷ ss) (suc c) h less =
    let there = file_at folder ns ss c h.1 (omega (arith, less)) in
    record { name = there.name; at = there.at; file = there.file }

-- there is one for each capture of the job
pub one_each : (job : Job) (folder : FolderSeen) {S : Type 0} (seen : S → SourceSeen) (sources : List S)
    → AreOpened folder (declared_of job).files (map seen sources) → length sources ≡ length (declared_of job).captures
one_each job folder seen sources opened =
    sym (length-map sources seen) ∙ as_many_opened folder (declared_of job).files (map seen sources) opened ∙ length-map job.files.items (λ list. list.items) ∙ as_many_files job
    ∙ sym (length-map job.names.captures.items (λ list. list.items))
