-- Captures that were gathered one after the other.
use Rattle.std.proofs.Common.{ℕ, add-zero, zero, suc, List, [], ◌∷◌, ◌++◌, ◌≡◌, ◌+◌, None, Some, take, drop, length, refl, sym, ap, ◌∙◌, subst, arith, add-one, append_assoc, length-drop, inl}
use Rattle.std.proofs.lemmas.List.{append-nil, length-append, take_all}
use Rattle.std.proofs.lemmas.Option.{slice_get_within}
use Rattle.std.specs.Prelude.{IsTrue, slice_get}
use Rattle.central_report.specs.Report.{accepted_from, counts_from}
use Rattle.ds_base.specs.Outside.{FolderSeen, SourceSeen, file_named}
use Rattle.ds_base.specs.declared.capture.Counts.{Counts}
use Rattle.ds_base.specs.declared.summary.Summary.{Summary}
use Rattle.key_select.specs.Fates.{accepted_of, counts_of}
use Rattle.key_select.specs.Wanted.{good_of}
use Rattle.pcap_reader.specs.Good.{good}
use Rattle.summary_spec.specs.Declaration.{Declared}
use Rattle.job_inputs.specs.Captures.{AreFiles, AreSound, AreSoundBefore, AreThere, GathersCaptures, StopsCaptures}
use Rattle.input_files.specs.Files.{AreOpened, IsOpened}
use Rattle.job_inputs.specs.Gathering.{GathersNext, StopsRead}
use Rattle.job_inputs.proofs.Opened.{as_many_opened}
use Rattle.input_files.specs.declared.fault.CaptureFault.{CaptureFault}
use Rattle.input_files.specs.declared.fault.CaptureFault.TheVariants.{Malformed, Unread, OutOfMemory}
use Rattle.job_inputs.specs.Faults.{fault_at_reading}

-- ---- one file more

accepted_more : (job : Declared) (capture : ℕ) (files : List (List ℕ)) (bytes : List ℕ)
    → accepted_from job capture (files ++ bytes ∷ []) ≡ accepted_from job capture files ++ accepted_of job (capture + length files) (good_of job (capture + length files) bytes).records
accepted_more job capture [] bytes = append-nil (accepted_of job capture (good_of job capture bytes).records) ∙ rw add-zero refl
accepted_more job capture (file ∷ files) bytes =
    let here = accepted_of job capture (good_of job capture file).records in
    let e : capture + 1 + length files ≡ capture + suc (length files) = omega arith in
    ap (λ ss. here ++ ss) (accepted_more job (capture + 1) files bytes)
    ∙ ap (λ n. here ++ (accepted_from job (capture + 1) files ++ accepted_of job n (good_of job n bytes).records)) e
    ∙ sym (append_assoc here (accepted_from job (capture + 1) files) (accepted_of job (capture + suc (length files)) (good_of job (capture + suc (length files)) bytes).records))

counts_more : (job : Declared) (capture : ℕ) (files : List (List ℕ)) (bytes : List ℕ)
    → counts_from job capture (files ++ bytes ∷ [])
    ≡ counts_from job capture files ++ counts_of job (capture + length files) (good_of job (capture + length files) bytes).records (good_of job (capture + length files) bytes).cut ∷ []
counts_more job capture [] bytes = rw add-zero refl
counts_more job capture (file ∷ files) bytes =
    let here = counts_of job capture (good_of job capture file).records (good_of job capture file).cut in
    let e : capture + 1 + length files ≡ capture + suc (length files) = omega arith in
    ap (λ cs. here ∷ cs) (counts_more job (capture + 1) files bytes)
    ∙ ap (λ n. here ∷ (counts_from job (capture + 1) files ++ counts_of job n (good_of job n bytes).records (good_of job n bytes).cut ∷ [])) e

sound_more : (files : List (List ℕ)) (bytes : List ℕ) → AreSound files → (good None bytes).bad ≡ None → AreSound (files ++ bytes ∷ [])
sound_more [] bytes h one = (one, tt)
sound_more (file ∷ files) bytes h one = (h.0, sound_more files bytes h.1 one)

files_more : (folder : FolderSeen) (names files : List (List ℕ)) (name bytes : List ℕ) → AreFiles folder names files
    → file_named folder.files name ≡ Some bytes → AreFiles folder (names ++ name ∷ []) (files ++ bytes ∷ [])
files_more folder [] [] name bytes h one = (one, tt)
files_more folder [] (f ∷ fs) name bytes h one = absurd h
files_more folder (n ∷ ns) [] name bytes h one = absurd h
files_more folder (n ∷ ns) (f ∷ fs) name bytes h one = (h.0, files_more folder ns fs name bytes h.1 one)

-- nothing was gathered yet
pub gathers_none : (job : Declared) (folder : FolderSeen) (list : List Summary) (counts : List Counts) → list ≡ [] → counts ≡ []
    → GathersCaptures job [] folder folder list counts
gathers_none job folder list counts none uncounted = record {
  faults = refl;
  given = [];
  as_many = refl;
  sound = tt;
  accepted = none;
  counted = uncounted;
  files = λ told. tt;
}

-- one capture more was gathered
pub gathers_more : (job : Declared) (names : List (List ℕ)) (first before after : FolderSeen) (list longer : List Summary) (earlier counts : List Counts)
    (capture : ℕ) (name : List ℕ) (source : SourceSeen) → length names ≡ capture → IsOpened first name source
    → GathersCaptures job names first before list earlier
    → GathersNext job capture source before.faults after.faults list longer earlier counts
    → GathersCaptures job (names ++ name ∷ []) first after longer counts
gathers_more job names first before after list longer earlier counts capture name source place opened h next =
    let bytes = next.gathers.given in
    let all = next.gathers.all in
    let number : 0 + length h.given ≡ capture = omega (arith, h.as_many, place) in
    record {
      faults = next.gathers.faults ∙ h.faults;
      given = h.given ++ bytes ∷ [];
      as_many = length-append h.given (bytes ∷ []) ∙ ap (λ n. n + 1) h.as_many ∙ sym (length-append names (name ∷ []));
      sound = sound_more h.given bytes h.sound all.sound;
      accepted = all.accepted ∙ ap (λ ss. ss ++ accepted_of job capture (good_of job capture bytes).records) h.accepted
          ∙ ap (λ n. accepted_from job 0 h.given ++ accepted_of job n (good_of job n bytes).records) (sym number) ∙ sym (accepted_more job 0 h.given bytes);
      counted = next.counted ∙ ap (λ cs. cs ++ next.fared ∷ []) h.counted
          ∙ ap (λ c. counts_from job 0 h.given ++ c ∷ []) all.counts
          ∙ ap (λ n. counts_from job 0 h.given ++ counts_of job n (good_of job n bytes).records (good_of job n bytes).cut ∷ []) (sym number)
          ∙ sym (counts_more job 0 h.given bytes);
      files = λ told.
          let f = opened.1 told in
          files_more first names h.given name bytes (h.files told) (f.1 ∙ ap (λ bs. Some bs) (next.gathers.whole f.0));
    }

-- all captures were gathered, where no source is left
pub gathers_all : (job : Declared) (names : List (List ℕ)) (capture : ℕ) (first now : FolderSeen) (list : List Summary) (counts : List Counts)
    → AreOpened first (drop capture names) [] → GathersCaptures job (take capture names) first now list counts
    → GathersCaptures job names first now list counts
gathers_all job names capture first now list counts none h =
    let left : 0 ≡ length (drop capture names) = as_many_opened first (drop capture names) [] none in
    let all : take capture names ≡ names = take_all capture names (omega (arith, left, length-drop capture names)) in
    let P : List (List ℕ) → Type 0 = λ ns. GathersCaptures job ns first now list counts in
    subst P all h

length-counts : (job : Declared) (capture : ℕ) (files : List (List ℕ)) → length (counts_from job capture files) ≡ length files
length-counts job capture [] = refl
length-counts job capture (file ∷ files) = ap suc (length-counts job (capture + 1) files)

-- there are counts for each capture
pub as_many_counts : (job : Declared) (names : List (List ℕ)) (before after : FolderSeen) (list : List Summary) (counts : List Counts)
    → GathersCaptures job names before after list counts → length counts ≡ length names
as_many_counts job names before after list counts h = ap length h.counted ∙ length-counts job 0 h.given ∙ h.as_many

-- ---- the capture that is read next

-- the first of the sources that are left is that of the next name
pub record IsNext (first : FolderSeen) (names : List (List ℕ)) (capture : ℕ) (source : SourceSeen) (sources : List SourceSeen) : Type 0 where
  pub name : List ℕ
  pub at : slice_get names capture ≡ Some name
  pub opened : IsOpened first name source
  pub others : AreOpened first (drop (capture + 1) names) sources

pub next_opened : (first : FolderSeen) (names : List (List ℕ)) (capture : ℕ) (source : SourceSeen) (sources : List SourceSeen)
    → AreOpened first (drop capture names) (source ∷ sources) → IsNext first names capture source sources
next_opened first [] zero source sources h = absurd h
next_opened first [] (suc i) source sources h = absurd h
next_opened first (n ∷ ns) zero source sources h = record { name = n; at = refl; opened = h.0; others = h.1 }
next_opened first (n ∷ ns) (suc i) source sources h =
    let later = next_opened first ns i source sources h in
    record { name = later.name; at = later.at; opened = later.opened; others = rw add-one (rw add-one at later.others) }

-- ---- why it is not

-- the captures that were gathered are there and not malformed
sound_before : (first : FolderSeen) (names : List (List ℕ)) (capture : ℕ) (given : List (List ℕ))
    → AreFiles first (take capture names) given → AreSound given → AreSoundBefore first names capture
sound_before first [] capture given files sound k name before at = cc
sound_before first (n ∷ ns) zero given files sound k name before at = absurd (omega arith)
sound_before first (n ∷ ns) (suc i) [] files sound k name before at = absurd files
sound_before first (n ∷ ns) (suc i) (b ∷ bs) files sound zero name before at =
    let e : n ≡ name = cc in
    (b, ap (λ x. file_named first.files x) (sym e) ∙ files.0, sound.0)
sound_before first (n ∷ ns) (suc i) (b ∷ bs) files sound (suc k) name before at =
    sound_before first ns i bs files.1 sound.1 k name (omega arith) at

-- the first capture that is not read to its end, where those before it were
pub stops_reading : (job : Declared) (names : List (List ℕ)) (first before stopped after : FolderSeen) (list : List Summary) (counts : List Counts)
    (capture : ℕ) (name : List ℕ) (source : SourceSeen) → slice_get names capture ≡ Some name → IsOpened first name source
    → GathersCaptures job (take capture names) first before list counts → (IsTrue first.told → AreThere first names) → after.faults ≡ stopped.faults
    → (fault : CaptureFault) → StopsRead source before.faults stopped.faults fault → StopsCaptures names first after (fault_at_reading capture fault)
stops_reading job names first before stopped after list counts capture name source at opened h there back (Malformed place what) (faults, bad) = (
  back ∙ faults ∙ h.faults,
  slice_get_within names capture name at,
  λ told.
      let f = opened.1 told in (
        name,
        at,
        (source.whole, f.1, bad f.0),
        sound_before first names capture h.given (h.files told) h.sound,
        there told,
      ),
)
stops_reading job names first before stopped after list counts capture name source at opened h there back Unread rose = (
  slice_get_within names capture name at,
  λ told. (name, at, inl (rw (← h.faults, back) rose)),
)
stops_reading job names first before stopped after list counts capture name source at opened h there back OutOfMemory faults = back ∙ faults ∙ h.faults
