-- How many lines of a report begin with `G`.
use Rattle.std.proofs.Common.{◌≡◌, ℕ, zero, suc, ◌+◌, ◌/◌, ◌%◌, Bool, true, false, List, [], ◌∷◌, ◌++◌, map, length, cond, refl, sym, ap, ◌∙◌, append_assoc, arith, rules}
use Rattle.std.specs.Prelude.{◌==◌, codes}
use Rattle.std.proofs.lemmas.List.{append-nil}
use Rattle.std.specs.Fmt.{decimal, digits, digits_onto, digit_glyph}
use Rattle.std.specs.List.{flat_map, filter}
use Rattle.answer_text.specs.Lines.{verdict_text, key_text, answer_text, class_texts, profile_text, ending_of, capture_text, end_text}
use Rattle.answer_text.specs.Pieces.{labelled, behind, joined, name_of}
use Rattle.central_report.specs.Report.{accepted, groups, names_of, answer_to, group_text, profile_texts, capture_texts, counts_from, rows_of, report}
use Rattle.ds_base.specs.Copies.{Copies}
use Rattle.ds_base.specs.Items.{Items}
use Rattle.ds_base.specs.declared.capture.Counts.{Counts}
use Rattle.ds_base.specs.declared.profile_row.ProfileRow.{ProfileRow}
use Rattle.ds_base.specs.declared.summary.Summary.{Summary}
use Rattle.ds_base.specs.declared.verdict.Answer.{Answer}
use Rattle.ds_base.specs.declared.verdict.Verdict.{Verdict}
use Rattle.ds_base.specs.declared.verdict.Verdict.TheVariants.{Fine, Loop, Dropped, Path, Rewrite, Value, Undefined}
use Rattle.summary_spec.specs.Declaration.{Declared, Question}
use Rattle.window_grouper.specs.Groups.{groups_behind, is_covered, covers}
use Rattle.sample_run.specs.Starts.{lines_with}

-- Text that is read from a place which is or is not the start of a line: no line in it begins with `G`, and behind it is
-- or is not the start of a line.
pub record Goes (from to : Bool) (text : List ℕ) : Type 0 where
  pub goes : (rest : List ℕ) → lines_with 71 from (text ++ rest) ≡ lines_with 71 to rest

pub fixed : {from to : Bool} (text : List ℕ) → ((rest : List ℕ) → lines_with 71 from (text ++ rest) ≡ lines_with 71 to rest) → Goes from to text
fixed text h = record { goes = h }

pub on : {from between to : Bool} {front tail : List ℕ} → Goes from between front → Goes between to tail → Goes from to (front ++ tail)
on {from} {between} {to} {front} {tail} f t = record {
  goes = λ rest. ap (lines_with 71 from) (append_assoc front tail rest) ∙ f.goes (tail ++ rest) ∙ t.goes rest;
}

pub nothing : (b : Bool) → Goes b b []
nothing b = fixed [] (λ rest. refl)

-- text inside of a line
abbrev pub Inside : List ℕ → Type 0
Inside = Goes false false

-- ---- numbers

either : (b : Bool) (xs ys : List ℕ) → Inside xs → Inside ys → Inside (cond b xs ys)
either true xs ys f g = f
either false xs ys f g = g

glyph_inside : (d : ℕ) → (digit_glyph false d == 10) ≡ false
glyph_inside d = search (rules, arith)

one_inside : (b : ℕ) (text : List ℕ) → (b == 10) ≡ false → Inside text → Inside (b ∷ text)
one_inside b text e h = fixed (b ∷ text) (λ rest. ap (λ s. lines_with 71 s (text ++ rest)) e ∙ h.goes rest)

digits_inside : (k n : ℕ) (text : List ℕ) → Inside text → Inside (digits_onto k 10 false n text)
digits_inside zero n text h = h
digits_inside (suc k) n text h =
    let d = digit_glyph false (n % 10) in
    let here : Inside (d ∷ text) = one_inside d text (glyph_inside (n % 10)) h in
    either (n / 10 == 0) (d ∷ text) _ here (digits_inside k (n / 10) (d ∷ text) here)

pub decimal_inside : (n : ℕ) → Inside (decimal n)
unfolding digits
decimal_inside n = digits_inside 64 n [] (nothing false)

number : (label : List ℕ) (n : ℕ) → ((rest : List ℕ) → lines_with 71 false (label ++ rest) ≡ lines_with 71 false rest) → Inside (labelled label n)
number label n h = on (fixed label h) (decimal_inside n)

-- ---- lists with commas

abbrev AllInside : List (List ℕ) → Type 0
AllInside [] = Unit {0}
AllInside (text ∷ texts) = Inside text × AllInside texts

behind_inside : (texts : List (List ℕ)) → AllInside texts → Inside (flat_map behind texts)
behind_inside [] h = nothing false
behind_inside (text ∷ texts) h = on (on (fixed (codes ",") (λ rest. refl)) h.0) (behind_inside texts h.1)

joined_inside : (texts : List (List ℕ)) → AllInside texts → Inside (joined texts)
joined_inside [] h = nothing false
joined_inside (text ∷ texts) h = on h.0 (behind_inside texts h.1)

decimals : (ns : List ℕ) → AllInside (map decimal ns)
decimals [] = tt
decimals (n ∷ ns) = (decimal_inside n, decimals ns)

either_all : (b : Bool) (xs ys : List (List ℕ)) → AllInside xs → AllInside ys → AllInside (cond b xs ys)
either_all true xs ys f g = f
either_all false xs ys f g = g

classes : (class : ℕ) (ns : List ℕ) → AllInside (class_texts class ns)
classes class [] = tt
classes class (n ∷ ns) =
    either_all (n == 0) (class_texts (class + 1) ns) _ (classes (class + 1) ns)
    (on (decimal_inside class) (number (codes ":") n (λ rest. refl)), classes (class + 1) ns)

-- ---- lines

-- no name of a capture has a line's end
abbrev pub AreNames : List (Items ℕ) → Type 0
AreNames names = (k : ℕ) → Inside (name_of names k)

verdict : (names : List (Items ℕ)) (v : Verdict) → AreNames names → Inside (verdict_text names v)
verdict names Fine n = fixed (codes "ok") (λ rest. refl)
verdict names (Loop capture high low) n =
    on (on (on (fixed (codes "loop ") (λ rest. refl)) (n capture)) (number (codes " ") high (λ rest. refl))) (number (codes " ") low (λ rest. refl))
verdict names (Dropped capture) n = on (fixed (codes "drop ") (λ rest. refl)) (n capture)
verdict names (Path at) n = number (codes "path ") at (λ rest. refl)
verdict names (Rewrite pair rule) n = on (number (codes "rewrite ") pair (λ rest. refl)) (number (codes " ") rule (λ rest. refl))
verdict names (Value v) n = number (codes "value ") v (λ rest. refl)
verdict names Undefined n = fixed (codes "undefined") (λ rest. refl)

-- whole lines, so many of which begin with `G`
abbrev Has : ℕ → List ℕ → Type 0
Has lines text = (rest : List ℕ) → lines_with 71 true (text ++ rest) ≡ lines + lines_with 71 true rest

-- the line of an answer, behind its first two bytes
answer_tail : (names : List (Items ℕ)) (a : Answer) → AreNames names
    → Goes false true (decimal a.first.time ++ (codes " " ++ name_of names a.first.capture) ++ labelled (codes " ") a.first.number
    ++ key_text a.key ++ labelled (codes " n=") a.members ++ codes " " ++ verdict_text names a.verdict ++ codes "\n")
answer_tail names a n =
    on (on (on (on (on (on (on (decimal_inside a.first.time) (on (fixed (codes " ") (λ rest. refl)) (n a.first.capture)))
    (number (codes " ") a.first.number (λ rest. refl)))
    (on (fixed (codes " key=") (λ rest. refl)) (joined_inside (map decimal a.key) (decimals a.key)))) (number (codes " n=") a.members (λ rest. refl)))
    (fixed (codes " ") (λ rest. refl))) (verdict names a.verdict n)) (fixed (codes "\n") (λ rest. refl))

answer : (names : List (Items ℕ)) (a : Answer) → AreNames names → Has 1 (answer_text names a)
answer names a n = λ rest. ap (λ k. 1 + k) ((answer_tail names a n).goes rest)

profile : (names : List (Items ℕ)) (row : ProfileRow) → AreNames names → Goes true true (profile_text names row)
profile names row n =
    on (on (on (on (on (on (on (on (on {between = false} (fixed (codes "P ") (λ rest. refl)) (n row.from)) (on (fixed (codes " ") (λ rest. refl)) (n row.to)))
    (number (codes " count=") row.count (λ rest. refl))) (number (codes " sum=") row.sum (λ rest. refl)))
    (number (codes " least=") row.least (λ rest. refl))) (number (codes " greatest=") row.greatest (λ rest. refl)))
    (fixed (codes " classes=") (λ rest. refl))) (joined_inside (class_texts 0 row.classes) (classes 0 row.classes)))
    (fixed (codes "\n") (λ rest. refl))

ending : (cut : Bool) → Goes false true (ending_of cut)
ending true = fixed (codes " cut\n") (λ rest. refl)
ending false = fixed (codes " whole\n") (λ rest. refl)

capture : (names : List (Items ℕ)) (k : ℕ) (counts : Counts) → AreNames names → Goes true true (capture_text names k counts)
capture names k counts n =
    on (on (on (on (on (on {between = false} (fixed (codes "C ") (λ rest. refl)) (n k)) (number (codes " records=") counts.records (λ rest. refl)))
    (number (codes " unmatched=") counts.unmatched (λ rest. refl))) (number (codes " late=") counts.late (λ rest. refl)))
    (number (codes " accepted=") counts.accepted (λ rest. refl))) (ending counts.cut)

last : (n summaries : ℕ) → Goes true true (end_text n summaries)
last n summaries =
    on (on (on {between = false} (fixed (codes "E groups=") (λ rest. refl)) (decimal_inside n)) (number (codes " summaries=") summaries (λ rest. refl)))
    (fixed (codes "\n") (λ rest. refl))

-- ---- the report

abbrev AreCounted : List (Items ℕ) → Question → List Copies → Type 0
AreCounted names query gs = Has (length gs) (flat_map (group_text names query) gs)

either_groups : (names : List (Items ℕ)) (query : Question) (b : Bool) (gs hs : List Copies) → AreCounted names query gs → AreCounted names query hs
    → AreCounted names query (cond b gs hs)
either_groups names query true gs hs f g = f
either_groups names query false gs hs f g = g

no_group : (names : List (Items ℕ)) (query : Question) → AreCounted names query []
no_group names query = λ rest. omega arith

one_group : (names : List (Items ℕ)) (query : Question) (g : Copies) (gs : List Copies) → Has 1 (group_text names query g) → AreCounted names query gs
    → AreCounted names query (g ∷ gs)
one_group names query g gs f t = λ rest.
    (let e = ap (lines_with 71 true) (append_assoc (group_text names query g) (flat_map (group_text names query) gs) rest) in
    let line = f (flat_map (group_text names query) gs ++ rest) in
    let lines = t rest in
    omega (arith, e, line, lines))

-- each group has a member, so it has a line
all_groups : (names : List (Items ℕ)) (query : Question) (window : ℕ) (fs l : List Summary) → AreNames names
    → AreCounted names query (groups_behind window fs l)
all_groups names query window fs [] n = no_group names query
all_groups names query window fs (s ∷ l) n =
    let g : Copies = record { key = s.key; members = s ∷ filter (covers window s) l } in
    either_groups names query (is_covered window fs s) (groups_behind window fs l) (g ∷ groups_behind window (s ∷ fs) l) (all_groups names query window fs l n)
    (one_group names query g (groups_behind window (s ∷ fs) l) (answer names (answer_to query g s) n) (all_groups names query window (s ∷ fs) l n))

all_rows : (names : List (Items ℕ)) (rows : List ProfileRow) → AreNames names → Goes true true (flat_map (profile_text names) rows)
all_rows names [] n = nothing true
all_rows names (row ∷ rows) n = on (profile names row n) (all_rows names rows n)

profiles : (names : List (Items ℕ)) (asked : Bool) (gs : List Copies) → AreNames names → Goes true true (profile_texts names asked gs)
profiles names false gs n = nothing true
profiles names true gs n = all_rows names (rows_of gs) n

captures : (names : List (Items ℕ)) (k : ℕ) (counts : List Counts) → AreNames names → Goes true true (capture_texts names k counts)
captures names k [] n = nothing true
captures names k (c ∷ counts) n = on (capture names k c n) (captures names (k + 1) counts n)

whole : (g p c e : List ℕ) (n : ℕ) → Has n g → Goes true true p → Goes true true c → Goes true true e
    → lines_with 71 true (g ++ p ++ c ++ e) ≡ n
whole g p c e n front ps cs es =
    let first = front (p ++ c ++ e) in
    let others = ap (lines_with 71 true) (sym (append-nil (p ++ c ++ e))) ∙ (on (on ps cs) es).goes [] in
    let same : lines_with 71 true (g ++ p ++ c ++ e) ≡ lines_with 71 true (g ++ (p ++ c ++ e)) =
    ap (λ t. lines_with 71 true (t ++ e)) (append_assoc g p c) ∙ ap (lines_with 71 true) (append_assoc g (p ++ c) e) in
    omega (arith, same, first, others)

-- the lines of a report that begin with `G` are those of its groups, one each
pub group_lines : (job : Declared) (files : List (List ℕ)) → AreNames (names_of job) → lines_with 71 true (report job files) ≡ length (groups job files)
group_lines job files n =
    let names = names_of job in
    let gs = groups job files in
    let front : AreCounted names job.query gs = all_groups names job.query job.window [] (accepted job files) n in
    let p : Goes true true (profile_texts names job.profile gs) = profiles names job.profile gs n in
    let c : Goes true true (capture_texts names 0 (counts_from job 0 files)) = captures names 0 (counts_from job 0 files) n in
    let e : Goes true true (end_text (length gs) (length (accepted job files))) = last (length gs) (length (accepted job files)) in
    whole (flat_map (group_text names job.query) gs) _ _ _ (length gs) front p c e
