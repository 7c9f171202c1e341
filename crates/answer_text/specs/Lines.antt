-- The lines of the report. The names are those of the captures, in the order of their numbers.
use Rattle.std.specs.Prelude.{ℕ, ◌<◌, ◌+◌, ◌==◌, List, [], ◌∷◌, ◌++◌, Bool, if◌then◌else◌, map, codes}
use Rattle.std.specs.Fmt.{decimal}
use Rattle.ds_base.specs.Items.{Items}
use Rattle.ds_base.specs.declared.capture.Counts.{Counts}
use Rattle.ds_base.specs.declared.profile_row.ProfileRow.{ProfileRow}
use Rattle.ds_base.specs.declared.stamp.Stamp.{Stamp}
use Rattle.ds_base.specs.declared.verdict.Answer.{Answer}
use Rattle.ds_base.specs.declared.verdict.Verdict.{Verdict}
use Rattle.ds_base.specs.declared.verdict.Verdict.TheVariants.{Fine, Loop, Dropped, Path, Rewrite, Value, Undefined}
use Rattle.answer_text.specs.Pieces.{labelled, joined, name_of}

-- each capture in the verdict is one of so many
abbrev pub IsNamedIn : ℕ → Verdict → Type 0
IsNamedIn captures (Loop capture high low) = capture < captures
IsNamedIn captures (Dropped capture) = capture < captures
IsNamedIn captures _ = Unit {0}

abbrev pub verdict_text : List (Items ℕ) → Verdict → List ℕ
verdict_text names Fine = codes "ok"
verdict_text names (Loop capture high low) =
    (codes "loop " ++ name_of names capture) ++ labelled (codes " ") high ++ labelled (codes " ") low
verdict_text names (Dropped capture) = codes "drop " ++ name_of names capture
verdict_text names (Path at) = labelled (codes "path ") at
verdict_text names (Rewrite pair rule) = labelled (codes "rewrite ") pair ++ labelled (codes " ") rule
verdict_text names (Value n) = labelled (codes "value ") n
verdict_text names Undefined = codes "undefined"

-- the time, the capture and the record of a group's first member
abbrev pub first_text : List (Items ℕ) → Stamp → List ℕ
first_text names first =
    labelled (codes "G ") first.time ++ (codes " " ++ name_of names first.capture) ++ labelled (codes " ") first.number

-- the numbers of a key
abbrev pub key_text : List ℕ → List ℕ
key_text key = codes " key=" ++ joined (map decimal key)

-- `G <time> <capture> <record> key=<k,k,..> n=<members> <verdict>`
abbrev pub answer_text : List (Items ℕ) → Answer → List ℕ
answer_text names answer =
    first_text names answer.first ++ key_text answer.key ++ labelled (codes " n=") answer.members
    ++ codes " " ++ verdict_text names answer.verdict ++ codes "\n"

-- a class and how many delays it has
abbrev pub class_text : ℕ → ℕ → List ℕ
class_text class number = decimal class ++ labelled (codes ":") number

-- the classes, from this one on, that have any delays
abbrev pub class_texts : ℕ → List ℕ → List (List ℕ)
class_texts class [] = []
class_texts class (number ∷ numbers) =
    if number == 0 then class_texts (class + 1) numbers else (class_text class number ∷ class_texts (class + 1) numbers)

-- what stands before a class
abbrev pub separator_of : Bool → List ℕ
separator_of is_first = if is_first then [] else codes ","

-- `P <from> <to> count=<n> sum=<n> least=<n> greatest=<n> classes=<class:n,..>`
abbrev pub profile_text : List (Items ℕ) → ProfileRow → List ℕ
profile_text names row =
    (codes "P " ++ name_of names row.from) ++ (codes " " ++ name_of names row.to)
    ++ labelled (codes " count=") row.count ++ labelled (codes " sum=") row.sum ++ labelled (codes " least=") row.least
    ++ labelled (codes " greatest=") row.greatest ++ codes " classes=" ++ joined (class_texts 0 row.classes) ++ codes "\n"

-- how the line of a capture ends
abbrev pub ending_of : Bool → List ℕ
ending_of cut = if cut then codes " cut\n" else codes " whole\n"

-- `C <name> records=<n> unmatched=<n> late=<n> accepted=<n> <whole or cut>`
abbrev pub capture_text : List (Items ℕ) → ℕ → Counts → List ℕ
capture_text names capture counts =
    (codes "C " ++ name_of names capture) ++ labelled (codes " records=") counts.records
    ++ labelled (codes " unmatched=") counts.unmatched ++ labelled (codes " late=") counts.late
    ++ labelled (codes " accepted=") counts.accepted ++ ending_of counts.cut

-- `E groups=<n> summaries=<n>`
abbrev pub end_text : ℕ → ℕ → List ℕ
end_text groups summaries = labelled (codes "E groups=") groups ++ labelled (codes " summaries=") summaries ++ codes "\n"
