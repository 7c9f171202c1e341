-- The lines of groups, one group more, and whatever room the names have.
use Rattle.std.proofs.Common.{ℕ, List, [], ◌∷◌, ◌++◌, ◌≡◌, ◌<◌, ◌+◌, ◌∙◌, Bool, true, false, Some, length, refl, sym, ap, arith, length-append}
use Rattle.std.specs.Prelude.{slice_get}
use Rattle.std.proofs.lemmas.Grind.{flat_map-append}
use Rattle.std.proofs.lemmas.List.{append-nil}
use Rattle.answer_text.specs.Lines.{answer_text}
use Rattle.ds_base.specs.Copies.{Copies}
use Rattle.ds_base.specs.Items.{Items}
use Rattle.ds_base.specs.declared.profile_row.ProfileRow.{ProfileRow}
use Rattle.ds_base.specs.declared.summary.Summary.{Summary}
use Rattle.ds_base.specs.declared.verdict.Answer.{Answer}
use Rattle.profiles.specs.Delays.{Delay, delays, delays_of}
use Rattle.profiles.specs.Put.{count_all}
use Rattle.summary_spec.specs.Declaration.{Declared, Question}
use Rattle.central_report.specs.Progress.{asked_rows, counted_rows, HasAnswered}
use Rattle.central_report.specs.Report.{answer_to, group_text, group_text_from, group_texts, rows_of}
use Rattle.central_report.specs.declared.written.Written.{Written}
use Rattle.central_report.proofs.Delaying.{count_all-append}

-- ---- the line of a group

-- the answer by the first member gives the line
line_from : (names : List (Items ℕ)) (query : Question) (g : Copies) (members : List Summary) (answer : Answer) → 0 < length members
    → ((first : Summary) → slice_get members 0 ≡ Some first → answer ≡ answer_to query g first)
    → answer_text names answer ≡ group_text_from names query g members
line_from names query g [] answer some is = absurd (omega arith)
line_from names query g (first ∷ others) answer some is = ap (answer_text names) (is first refl)

pub group_line : (names : List (Items ℕ)) (query : Question) (g : Copies) (answer : Answer) (before after : List ℕ) → 0 < length g.members
    → ((first : Summary) → slice_get g.members 0 ≡ Some first → answer ≡ answer_to query g first)
    → after ≡ before ++ answer_text names answer → after ≡ before ++ group_text names query g
group_line names query g answer before after some is put = put ∙ ap (λ line. before ++ line) (line_from names query g g.members answer some is)

-- ---- one group more

lines_more : (names : List (Items ℕ)) (query : Question) (gs : List Copies) (g : Copies)
    → group_texts names query (gs ++ g ∷ []) ≡ group_texts names query gs ++ group_text names query g
lines_more names query gs g =
    flat_map-append (group_text names query) gs (g ∷ []) ∙ ap (λ line. group_texts names query gs ++ line) (append-nil (group_text names query g))

rows_more : (gs : List Copies) (g : Copies) → rows_of (gs ++ g ∷ []) ≡ count_all (delays g.members) (rows_of gs)
rows_more gs g =
    let all = flat_map-append (λ (h : Copies). delays h.members) gs (g ∷ []) ∙ ap (λ (ds : List Delay). delays_of gs ++ ds) (append-nil (delays g.members)) in
    ap (λ (ds : List Delay). count_all ds []) all ∙ count_all-append (delays_of gs) (delays g.members) []

asked_more : (profile : Bool) (gs : List Copies) (g : Copies) → asked_rows profile (gs ++ g ∷ []) ≡ counted_rows profile (delays g.members) (asked_rows profile gs)
asked_more false gs g = refl
asked_more true gs g = rows_more gs g

pub answered_more : (names : List (Items ℕ)) (job : Declared) (old new : Written) (gs : List Copies) (g : Copies)
    → new.text.items ≡ old.text.items ++ group_text names job.query g → new.profile ≡ counted_rows job.profile (delays g.members) old.profile → new.groups ≡ old.groups + 1
    → HasAnswered names job old gs → HasAnswered names job new (gs ++ g ∷ [])
answered_more names job old new gs g line rows one h = record {
  lines = line ∙ ap (λ text. text ++ group_text names job.query g) h.lines ∙ sym (lines_more names job.query gs g);
  rows = rows ∙ ap (λ (rs : List ProfileRow). counted_rows job.profile (delays g.members) rs) h.rows ∙ sym (asked_more job.profile gs g);
  number = omega (arith, one, h.number, length-append gs (g ∷ []));
}
