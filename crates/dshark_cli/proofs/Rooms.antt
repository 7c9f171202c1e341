-- Of what a command opens: what is sound has no fault, and a refused job leaves no other.
use Rattle.std.proofs.Common.{ℕ, List, [], ◌∷◌, ◌++◌, ◌≡◌, ◌<◌, ◌∙◌, true, false, zero, suc, Option, Some, None, Ok, Err, refl, sym, ap, subst, inl, inr, arith}
use Rattle.std.specs.Prelude.{◌⊎◌, IfSome, IsSome, IsSomeAnd, slice_get, option_map, option_to_list}
use Rattle.std.specs.List.{AllByRecursion}
use Rattle.ds_base.specs.Faults.{Rose, IsQuiet}
use Rattle.ds_base.specs.Outside.{FolderSeen, file_named}
use Rattle.ds_base.specs.declared.capture.PcapFault.{PcapFault}
use Rattle.job_values.specs.declared.fault.JobFault.{JobFault}
use Rattle.pcap_reader.specs.Format.{bad_at}
use Rattle.pcap_reader.specs.Good.{good}
use Rattle.summary_spec.specs.Reads.{reads}
use Rattle.job_inputs.specs.Captures.{IsUnreadAt}
use Rattle.input_files.specs.Files.{HasSound, IsMalformed}
use Rattle.job_inputs.specs.Jobs.{HasJob, IsBadJob}
use Rattle.dshark_cli.specs.Said.{files_said}
use Rattle.job_inputs.specs.Reports.{AreAllSound}
use Rattle.dshark_cli.specs.Rooms.{Opens, NoFile, ACapture, AJob, AJobAndItsCaptures, Writes, AtTheEnd, InStep, AsItComes, Blames, TheFirst, AnyOne, job_of, captures_of, most_captures, files_of, most_files, AcceptsJob, IsSound, IsReady, IsBlamed}
use Rattle.job_inputs.proofs.Missing.{IsFirstUnread}

-- ---- lists of names

-- the folder has the file of that name
abbrev pub IsThere : FolderSeen → List ℕ → Type 0
IsThere folder name = (bytes : List ℕ) × (file_named folder.files name ≡ Some bytes)

-- what holds of all names holds of the one with this number
at_number : (P : List ℕ → Type 0) (names : List (List ℕ)) (i : ℕ) (name : List ℕ) → AllByRecursion P names → slice_get names i ≡ Some name → P name
at_number P [] i name all at = absurd (let no : None ≡ Some name = at in cc)
at_number P (n ∷ names) zero name all at = let same : n ≡ name = (let e : Some n ≡ Some name = at in cc) in subst P same all.0
at_number P (n ∷ names) (suc i) name all at = at_number P names i name all.1 at

none_at : (names : List (List ℕ)) (i : ℕ) (name : List ℕ) → names ≡ [] → slice_get names i ≡ Some name → ⊥
none_at names i name none at = let e : None ≡ Some name = sym (ap (λ (xs : List (List ℕ)). slice_get xs i) none) ∙ at in cc

-- ---- one file reads in one way

-- a count that is quiet did not rise
pub quiet_not_rose : (old new : ℕ) → IsQuiet old new → Rose old new → ⊥
quiet_not_rose old new q (inl r) = omega arith
quiet_not_rose old new q (inr r) = omega arith

same_bytes : (a b : List ℕ) (found : Option (List ℕ)) → found ≡ Some a → found ≡ Some b → a ≡ b
same_bytes a b found x y =
    let same : Some a ≡ Some b = sym x ∙ y in
    cc

-- a capture that is not malformed has no malformed place
sound_capture : (folder : FolderSeen) (name : List ℕ) (at : ℕ) (what : PcapFault) → HasSound folder name → IsMalformed folder name at what → ⊥
sound_capture folder name at what sound bad =
    let both : Some (bad_at at what) ≡ None = sym bad.2 ∙ ap (λ bytes. (good None bytes).bad) (same_bytes bad.0 sound.0 (file_named folder.files name) bad.1 sound.1) ∙ sound.2 in
    cc

-- a job that is accepted is not refused
accepted_job : (folder : FolderSeen) (name : List ℕ) (fault : JobFault) → HasJob folder name → IsBadJob folder name fault → ⊥
accepted_job folder name fault (declared, (bytes, file, is)) (others, there, bad) =
    let both : Ok declared ≡ Err fault = sym is ∙ ap reads (same_bytes bytes others (file_named folder.files name) file there) ∙ bad in
    cc

-- a job has one first fault
pub one_fault : (job : Option (List ℕ)) (folder : FolderSeen) (a b : JobFault) → IsSomeAnd job (λ n. IsBadJob folder n a)
    → IsSomeAnd job (λ n. IsBadJob folder n b) → a ≡ b
one_fault None folder a b x y = absurd x
one_fault (Some name) folder a b (bytes, file, is) (others, there, also) =
    let both : Err a ≡ Err b = sym is ∙ ap reads (same_bytes bytes others (file_named folder.files name) file there) ∙ also in
    cc

-- ---- what is sound has no fault

pub not_bad_job : (job : Option (List ℕ)) (folder : FolderSeen) (fault : JobFault) → IfSome job (HasJob folder)
    → IsSomeAnd job (λ n. IsBadJob folder n fault) → ⊥
not_bad_job None folder fault sound bad = bad
not_bad_job (Some job) folder fault sound bad = accepted_job folder job fault sound bad

pub not_malformed : (blames : Blames) (folder : FolderSeen) (names : List (List ℕ)) (capture at : ℕ) (what : PcapFault) → AreAllSound folder names
    → IsBlamed blames folder names capture at what → ⊥
not_malformed TheFirst folder names capture at what sound (name, is, bad, first, there) =
    sound_capture folder name at what (at_number (HasSound folder) names capture name sound is) bad
not_malformed AnyOne folder names capture at what sound (name, is, bad) =
    sound_capture folder name at what (at_number (HasSound folder) names capture name sound is) bad

-- a file that is there was read, where nothing failed
there_and_read : (before after : FolderSeen) (name : List ℕ) (names : List (List ℕ)) (file : ℕ) → IsThere before name
    → IsQuiet before.faults after.faults → IsFirstUnread before after name names file → ⊥
there_and_read before after name names file there quiet (inl rose) = quiet_not_rose before.faults after.faults quiet rose
there_and_read before after name names file there quiet (inr missing) =
    let none : Some there.0 ≡ None = sym there.1 ∙ missing.0 in
    cc

pub all_there_and_read : (before after : FolderSeen) (names : List (List ℕ)) (file : ℕ) → AllByRecursion (IsThere before) names
    → IsQuiet before.faults after.faults → IsUnreadAt before after names file → ⊥
all_there_and_read before after names file there quiet (name, is, unread) =
    there_and_read before after name names file (at_number (IsThere before) names file name there is) quiet unread

all_there : (folder : FolderSeen) (names : List (List ℕ)) → AreAllSound folder names → AllByRecursion (IsThere folder) names
all_there folder [] sound = tt
all_there folder (name ∷ names) sound = ((sound.0.0, sound.0.1), all_there folder names sound.1)

with_job_there : (job : Option (List ℕ)) (folder : FolderSeen) (names : List (List ℕ)) → IfSome job (HasJob folder)
    → AllByRecursion (IsThere folder) names → AllByRecursion (IsThere folder) (option_to_list job ++ names)
with_job_there None folder names has there = there
with_job_there (Some job) folder names (declared, (bytes, file, is)) there = ((bytes, file), there)

pub files_there : (opens : Opens) (folder : FolderSeen) → IsSound opens folder → AllByRecursion (IsThere folder) (files_of opens folder)
files_there opens folder sound = with_job_there (job_of opens) folder (captures_of opens folder) sound.0 (all_there folder (captures_of opens folder) sound.1)

-- ---- a refused job leaves no other fault

-- a job that is refused has no captures
captures_of_refused : (opens : Opens) (folder : FolderSeen) (fault : JobFault) → IsSomeAnd (job_of opens) (λ n. IsBadJob folder n fault)
    → captures_of opens folder ≡ []
captures_of_refused NoFile folder fault bad = absurd bad
captures_of_refused (ACapture file) folder fault bad = absurd bad
captures_of_refused (AJob job) folder fault bad = refl
captures_of_refused (AJobAndItsCaptures job) folder fault (bytes, there, is) =
    ap (λ (found : Option (List ℕ)). files_said (option_map reads found)) there ∙ ap (λ said. files_said (Some said)) is

refused_alone : (job : Option (List ℕ)) (folder : FolderSeen) (fault : JobFault) (names : List (List ℕ)) → IsSomeAnd job (λ n. IsBadJob folder n fault)
    → names ≡ [] → AllByRecursion (IsThere folder) (option_to_list job ++ names)
refused_alone None folder fault names bad none = absurd bad
refused_alone (Some job) folder fault names (bytes, there, is) none =
    ((bytes, there), subst (AllByRecursion (IsThere folder)) (sym none) tt)

pub bad_and_unread : (opens : Opens) (before after : FolderSeen) (fault : JobFault) (file : ℕ) → IsSomeAnd (job_of opens) (λ n. IsBadJob before n fault)
    → IsQuiet before.faults after.faults → IsUnreadAt before after (files_of opens before) file → ⊥
bad_and_unread opens before after fault file bad quiet unread =
    all_there_and_read before after (files_of opens before) file
    (refused_alone (job_of opens) before fault (captures_of opens before) bad (captures_of_refused opens before fault bad)) quiet unread

pub bad_and_malformed : (opens : Opens) (blames : Blames) (folder : FolderSeen) (fault : JobFault) (capture at : ℕ) (what : PcapFault)
    → IsSomeAnd (job_of opens) (λ n. IsBadJob folder n fault) → IsBlamed blames folder (captures_of opens folder) capture at what → ⊥
bad_and_malformed opens TheFirst folder fault capture at what bad malformed =
    none_at (captures_of opens folder) capture malformed.0 (captures_of_refused opens folder fault bad) malformed.1
bad_and_malformed opens AnyOne folder fault capture at what bad malformed =
    none_at (captures_of opens folder) capture malformed.0 (captures_of_refused opens folder fault bad) malformed.1

pub bad_and_ready : (writes : Writes) (opens : Opens) (folder : FolderSeen) (fault : JobFault) → IsSomeAnd (job_of opens) (λ n. IsBadJob folder n fault)
    → IsReady writes opens folder → ⊥
bad_and_ready AtTheEnd opens folder fault bad ready = not_bad_job (job_of opens) folder fault ready.0 bad
bad_and_ready InStep opens folder fault bad ready = not_bad_job (job_of opens) folder fault ready bad
bad_and_ready AsItComes opens folder fault bad ready = not_bad_job (job_of opens) folder fault ready.0 bad

-- ---- whoever opens no file has none to name

pub has_no_job : (opens : Opens) → IsSome (job_of opens) → most_files opens ≡ 0 → ⊥
has_no_job NoFile job none = let no : false ≡ true = job in cc
has_no_job (ACapture file) job none = let no : false ≡ true = job in cc
has_no_job (AJob job) has none = omega (arith, none)
has_no_job (AJobAndItsCaptures job) has none = omega (arith, none)

pub has_no_capture : (opens : Opens) (capture : ℕ) → capture < most_captures opens → most_files opens ≡ 0 → ⊥
has_no_capture opens capture less none = omega (arith, less, none)

pub has_no_file : (opens : Opens) (file : ℕ) → file < most_files opens → most_files opens ≡ 0 → ⊥
has_no_file opens file less none = omega (arith, less, none)
