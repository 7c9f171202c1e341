-- The report of a job: what it says by the records of the captures' files, and by no order of reading. The
-- files are the bytes of the job's captures, in the order of their numbers.
use Rattle.std.specs.Prelude.{ℕ, ◌+◌, Bool, true, false, List, [], ◌∷◌, ◌++◌, length, map}
use Rattle.std.specs.List.{flat_map}
use Rattle.answer_text.specs.Lines.{answer_text, profile_text, capture_text, end_text}
use Rattle.ds_base.specs.Copies.{Copies}
use Rattle.ds_base.specs.Items.{Items}
use Rattle.ds_base.specs.declared.capture.Counts.{Counts}
use Rattle.ds_base.specs.declared.profile_row.ProfileRow.{ProfileRow}
use Rattle.ds_base.specs.declared.summary.Summary.{Summary}
use Rattle.ds_base.specs.declared.verdict.Answer.{Answer}
use Rattle.key_select.specs.Fates.{accepted_of, counts_of}
use Rattle.key_select.specs.Wanted.{good_of}
use Rattle.profiles.specs.Delays.{delays_of}
use Rattle.profiles.specs.Put.{count_all}
use Rattle.summary_spec.specs.Declaration.{Declared, Question}
use Rattle.summary_spec.specs.Judge.{verdict_on}
use Rattle.window_grouper.specs.Groups.{groups_of}
use Rattle.window_grouper.specs.Sorted.{by_stamp}

-- ---- what is reported

-- the accepted summaries of the captures from this number on, one capture after another
abbrev pub accepted_from : Declared → (capture : ℕ) → (files : List (List ℕ)) → List Summary
accepted_from job capture [] = []
accepted_from job capture (bytes ∷ files) =
    accepted_of job capture (good_of job capture bytes).records ++ accepted_from job (capture + 1) files

-- the accepted summaries of all captures, in the order of their stamps
abbrev pub accepted : Declared → (files : List (List ℕ)) → List Summary
accepted job files = by_stamp (accepted_from job 0 files)

-- the groups of all captures
abbrev pub groups : Declared → (files : List (List ℕ)) → List Copies
groups job files = groups_of job.window (accepted job files)

-- how the records of the captures from this number on fared
abbrev pub counts_from : Declared → (capture : ℕ) → (files : List (List ℕ)) → List Counts
counts_from job capture [] = []
counts_from job capture (bytes ∷ files) =
    counts_of job capture (good_of job capture bytes).records (good_of job capture bytes).cut ∷ counts_from job (capture + 1) files

-- ---- its lines

-- a text, without the room that it has in memory
abbrev pub bare : List ℕ → Items ℕ
bare text = record { items = text; spare = 0 }

-- the names of the job's captures
abbrev pub names_of : Declared → List (Items ℕ)
names_of job = map bare job.captures

-- the answer to a group with this first member
abbrev pub answer_to : Question → Copies → (first : Summary) → Answer
answer_to query group first = record {
  first = first.at;
  key = group.key;
  members = length group.members;
  verdict = verdict_on query group.members;
}

-- a group without members has no line
abbrev pub group_text_from : List (Items ℕ) → Question → Copies → (members : List Summary) → List ℕ
group_text_from names query group [] = []
group_text_from names query group (first ∷ others) = answer_text names (answer_to query group first)

-- the line of a group
abbrev pub group_text : List (Items ℕ) → Question → Copies → List ℕ
group_text names query group = group_text_from names query group group.members

-- the lines of groups
abbrev pub group_texts : List (Items ℕ) → Question → List Copies → List ℕ
group_texts names query gs = flat_map (group_text names query) gs

-- the rows of the delays of groups
abbrev pub rows_of : List Copies → List ProfileRow
rows_of gs = count_all (delays_of gs) []

-- the lines of rows
abbrev pub row_texts : List (Items ℕ) → List ProfileRow → List ℕ
row_texts names rows = flat_map (profile_text names) rows

-- the lines of the delays, where the job asks for them
abbrev pub profile_texts : List (Items ℕ) → (profile : Bool) → List Copies → List ℕ
profile_texts names false gs = []
profile_texts names true gs = row_texts names (rows_of gs)

-- the lines of the captures from this number on
abbrev pub capture_texts : List (Items ℕ) → (capture : ℕ) → List Counts → List ℕ
capture_texts names capture [] = []
capture_texts names capture (counts ∷ later) = capture_text names capture counts ++ capture_texts names (capture + 1) later

-- the lines of groups of so many summaries in all, then those of the delays, of the captures, and the last one
abbrev pub lines_of : List (Items ℕ) → Question → (profile : Bool) → List Copies → List Counts → (summaries : ℕ) → List ℕ
lines_of names query profile gs counts summaries =
    group_texts names query gs ++ profile_texts names profile gs ++ capture_texts names 0 counts ++ end_text (length gs) summaries

-- the report of these accepted summaries, in the order of their stamps, and of these counts
abbrev pub report_over : Declared → List Summary → List Counts → List ℕ
report_over job all counts = lines_of (names_of job) job.query job.profile (groups_of job.window all) counts (length all)

-- the report, over the records before the first malformed place of each file
abbrev pub report : Declared → (files : List (List ℕ)) → List ℕ
report job files = report_over job (accepted job files) (counts_from job 0 files)
