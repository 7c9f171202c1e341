-- The run over a sample, in terms of its files.
use Rattle.std.proofs.Common.{ℕ, zero, suc, List, [], ◌∷◌, ◌++◌, ◌≡◌, ◌<◌, ◌∙◌, true, false, All, length, map, get_or, refl, sym, ap, ap₂, subst}
use Rattle.std.specs.Prelude.{IsTrue, codes}
use Rattle.std.proofs.lemmas.List.{length-map, get_or-map}
use Rattle.std.proofs.lemmas.List.Elements.{All-from_get_or}
use Rattle.answer_text.specs.Pieces.{name_of}
use Rattle.central_report.specs.Report.{bare, names_of, report}
use Rattle.ds_base.specs.Keys.{fnv}
use Rattle.ds_base.specs.Outside.{NamedBytes, SourceSeen, SinkSeen, IsFresh, sink_of}
use Rattle.summary_spec.specs.Declaration.{Declared}
use Rattle.trace_gen.specs.Captures.{all_seen, point_name, points, named_file, sample_files}
use Rattle.trace_gen.specs.SampleJob.{sample_job}
use Rattle.run_law.specs.Shapes.{Shape}
use Rattle.link_rows.specs.Rows.{RowsSeen}
use Rattle.job_run.specs.Rows.{AreBoundBelow}
use Rattle.job_run.specs.Sources.{AllTell, files_of}
use Rattle.sample_run.specs.Made.{fresh_source, bytes_of, made_files, made_report}
use Rattle.sample_run.specs.SampleLine.{totals_of}
use Rattle.sample_run.specs.Starts.{lines_with}
use Rattle.sample_run.specs.declared.line.Totals.{Totals}
use Rattle.sample_run.proofs.Counted.{Inside, AreNames, on, fixed, nothing, decimal_inside, group_lines}

no_file : NamedBytes
no_file = record { name = []; bytes = [] }

none : SourceSeen
none = fresh_source no_file

-- what holds of each fresh source holds of all
all_of_files : (P : SourceSeen → Type 0) (files : List NamedBytes) → ((file : NamedBytes) → P (fresh_source file)) → All P (map fresh_source files)
all_of_files P files each =
    All-from_get_or P (map fresh_source files) none (λ i less.
    subst P (sym (get_or-map fresh_source files i no_file none (subst (λ (n : ℕ). i < n) (length-map files fresh_source) less))) (each (get_or files i no_file)))

pub all_fresh : (sources : List SourceSeen) (files : List NamedBytes) → sources ≡ map fresh_source files → All IsFresh sources
all_fresh sources files is = subst (All IsFresh) (sym is) (all_of_files IsFresh files (λ file. record { faults = refl; left = λ told. refl }))

pub all_tell : (sources : List SourceSeen) (files : List NamedBytes) → sources ≡ map fresh_source files → AllTell sources
all_tell sources files is = subst AllTell (sym is) (all_of_files (λ (s : SourceSeen). IsTrue s.told) files (λ file. refl))

bytes_told : (files : List NamedBytes) → files_of (map fresh_source files) ≡ bytes_of files
bytes_told [] = refl
bytes_told (file ∷ files) = ap (λ (xs : List (List ℕ)). file.bytes ∷ xs) (bytes_told files)

pub told_files : (sources : List SourceSeen) (files : List NamedBytes) → sources ≡ map fresh_source files → files_of sources ≡ bytes_of files
told_files sources files is = ap files_of is ∙ bytes_told files

-- a source of each file
pub as_many : {S : Type 0} (seen : S → SourceSeen) (sources : List S) {X : Type 0} (of : X → NamedBytes) (files : List X) → map seen sources ≡ map fresh_source (map of files)
    → length sources ≡ length files
as_many seen sources of files is =
    sym (length-map sources seen) ∙ ap length is ∙ length-map (map of files) fresh_source ∙ length-map files of

-- a file of each capture
pub one_each : {X : Type 0} (of : X → NamedBytes) (files : List X) (job : Declared) (number : ℕ) → map of files ≡ sample_files number → job ≡ sample_job
    → length files ≡ length job.captures
one_each of files job number is same =
    sym (length-map files of) ∙ ap length is ∙ length-map points (named_file (all_seen number)) ∙ sym (length-map points point_name) ∙ ap (λ (j : Declared). length j.captures) (sym same)

-- ---- the names of its captures

point_inside : (point : ℕ) → Inside (point_name point)
point_inside point = on (fixed (codes "s") (λ rest. refl)) (decimal_inside point)

names_inside : (xs : List ℕ) (k : ℕ) → Inside (name_of (map bare (map point_name xs)) k)
names_inside [] k = nothing false
names_inside (x ∷ xs) zero = point_inside x
names_inside (x ∷ xs) (suc k) = names_inside xs k

sample_names : AreNames (names_of sample_job)
sample_names k = names_inside points k

-- ---- the totals

pub totals_are : (number records : ℕ) (job : Declared) (files : List NamedBytes) (text : List ℕ) (totals : Totals) → job ≡ sample_job → files ≡ sample_files number
    → records ≡ length (all_seen number) → text ≡ report job (bytes_of files)
    → totals ≡ record { number = number; records = records; groups = lines_with 71 true text; bytes = length text; hash = fnv text }
    → totals ≡ totals_of number
totals_are number records job files text totals job_is files_are records_are text_is totals_is =
    let says : text ≡ made_report number = text_is ∙ ap₂ (λ (j : Declared) (fs : List NamedBytes). report j (bytes_of fs)) job_is files_are in
    totals_is
    ∙ ap₂ (λ (n : ℕ) (t : List ℕ). record { number = number; records = n; groups = lines_with 71 true t; bytes = length t; hash = fnv t }) records_are says
    ∙ ap (λ (n : ℕ). record { number = number; records = length (all_seen number); groups = n; bytes = length (made_report number); hash = fnv (made_report number) })
    (group_lines sample_job (made_files number) sample_names)

-- ---- what was written, and the rows

pub written_is : (sources : List SourceSeen) (files : List NamedBytes) (job : Declared) (old : SinkSeen) (new : List ℕ) → sources ≡ map fresh_source files → old ≡ sink_of [] 0
    → (AllTell sources → IsTrue old.told → new ≡ old.written ++ report job (files_of sources)) → new ≡ report job (bytes_of files)
written_is sources files job old new is new_sink whole =
    whole (all_tell sources files is) (subst (λ (s : SinkSeen). IsTrue s.told) (sym new_sink) refl)
    ∙ ap (λ (s : SinkSeen). s.written ++ report job (files_of sources)) new_sink
    ∙ ap (report job) (told_files sources files is)

pub rows_bound : (number : ℕ) (files : List NamedBytes) (job : Declared) (shape : Shape) (rows : RowsSeen) → job ≡ sample_job → files ≡ sample_files number
    → AreBoundBelow job (bytes_of files) shape rows → AreBoundBelow sample_job (made_files number) shape rows
rows_bound number files job shape rows job_is files_are h =
    subst (λ (j : Declared). AreBoundBelow j (bytes_of (sample_files number)) shape rows) job_is
    (subst (λ (fs : List NamedBytes). AreBoundBelow job (bytes_of fs) shape rows) files_are h)
