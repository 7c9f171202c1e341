-- The room that names have in memory does not show, and a list in any order has one report.
use Rattle.std.proofs.Common.{ℕ, zero, suc, Bool, true, false, List, [], ◌∷◌, ◌++◌, ◌≡◌, ◌+◌, ◌∙◌, map, length, refl, sym, ap, subst, arith}
use Rattle.answer_text.specs.Lines.{verdict_text, profile_text}
use Rattle.answer_text.specs.Pieces.{name_of}
use Rattle.ds_base.specs.Copies.{Copies}
use Rattle.ds_base.specs.Items.{Items}
use Rattle.ds_base.specs.declared.capture.Counts.{Counts}
use Rattle.ds_base.specs.declared.profile_row.ProfileRow.{ProfileRow}
use Rattle.ds_base.specs.declared.summary.Summary.{Summary}
use Rattle.ds_base.specs.declared.verdict.Verdict.{Verdict}
use Rattle.ds_base.specs.declared.verdict.Verdict.TheVariants.{Fine, Loop, Dropped, Path, Rewrite, Value, Undefined}
use Rattle.summary_spec.specs.Declaration.{Declared, Question, items_of}
use Rattle.summary_spec.specs.Judge.{verdict_on}
use Rattle.summary_spec.specs.Lawful.{IsLawful}
use Rattle.window_grouper.specs.Groups.{groups_of}
use Rattle.window_grouper.specs.Sorted.{by_stamp}
use Rattle.window_grouper.proofs.Insertion.{one_order}
use Rattle.central_report.specs.Laws.{IsSummaryOf, AreReportable}
use Rattle.central_report.specs.Progress.{AreInTurn, AreRowsAmong, asked_rows, HasAnswered}
use Rattle.central_report.specs.Report.{bare, group_text_from, group_texts, rows_of, row_texts, profile_texts, capture_texts, lines_of, report_over, names_of}
use Rattle.central_report.specs.declared.written.Written.{Written}
use Rattle.central_report.proofs.Delaying.{rows_among}
use Rattle.central_report.proofs.Gathered.{answerable}
use Rattle.central_report.proofs.Sorting.{all_sorted, length-by_stamp}

-- ---- the room of a name

same_name : (names : List (Items ℕ)) (n : ℕ) → name_of names n ≡ name_of (map bare (items_of names)) n
same_name [] n = refl
same_name (x ∷ xs) zero = refl
same_name (x ∷ xs) (suc n) = same_name xs n

same_verdict : (names : List (Items ℕ)) (v : Verdict) → verdict_text names v ≡ verdict_text (map bare (items_of names)) v
same_verdict names Fine = refl
same_verdict names (Loop capture high low) = rw (same_name names capture) refl
same_verdict names (Dropped capture) = rw (same_name names capture) refl
same_verdict names (Path at) = refl
same_verdict names (Rewrite pair rule) = refl
same_verdict names (Value n) = refl
same_verdict names Undefined = refl

same_group : (names : List (Items ℕ)) (query : Question) (g : Copies) (ss : List Summary)
    → group_text_from names query g ss ≡ group_text_from (map bare (items_of names)) query g ss
same_group names query g [] = refl
same_group names query g (s ∷ ss) = rw (same_name names s.at.capture, same_verdict names (verdict_on query g.members)) refl

same_groups : (names : List (Items ℕ)) (query : Question) (gs : List Copies) → group_texts names query gs ≡ group_texts (map bare (items_of names)) query gs
same_groups names query [] = refl
same_groups names query (g ∷ gs) = rw (same_group names query g g.members, same_groups names query gs) refl

both : (a b c d : List ℕ) → a ≡ b → c ≡ d → a ++ c ≡ b ++ d
both a b c d e f = cc

same_row : (names : List (Items ℕ)) (row : ProfileRow) → profile_text names row ≡ profile_text (map bare (items_of names)) row
same_row names row = rw (same_name names row.from, same_name names row.to) refl

same_rows : (names : List (Items ℕ)) (rows : List ProfileRow) → row_texts names rows ≡ row_texts (map bare (items_of names)) rows
same_rows names [] = refl
same_rows names (row ∷ rows) = both _ _ _ _ (same_row names row) (same_rows names rows)

same_profile : (names : List (Items ℕ)) (profile : Bool) (gs : List Copies) → profile_texts names profile gs ≡ profile_texts (map bare (items_of names)) profile gs
same_profile names false gs = refl
same_profile names true gs = same_rows names (rows_of gs)

same_captures : (names : List (Items ℕ)) (capture : ℕ) (counts : List Counts) → capture_texts names capture counts ≡ capture_texts (map bare (items_of names)) capture counts
same_captures names capture [] = refl
same_captures names capture (c ∷ counts) = rw (same_name names capture, same_captures names (capture + 1) counts) refl

same_lines : (names : List (Items ℕ)) (query : Question) (profile : Bool) (gs : List Copies) (counts : List Counts) (n : ℕ)
    → lines_of names query profile gs counts n ≡ lines_of (map bare (items_of names)) query profile gs counts n
same_lines names query profile gs counts n = rw (same_groups names query gs, same_profile names profile gs, same_captures names 0 counts) refl

-- ---- the list in the order of its stamps

pub in_turn : (job : Declared) (list : List Summary) → AreReportable job list → AreInTurn job (by_stamp list)
in_turn job list h = record {
  ordered = (one_order list h.differ).0.ordered;
  of_job = all_sorted (IsSummaryOf job) list h.of_job;
  few = omega (arith, length-by_stamp list, h.few);
}

asked_among : (job : Declared) (captures : ℕ) (profile : Bool) (l : List Summary) → IsLawful job → length job.captures ≡ captures → AreInTurn job l
    → AreRowsAmong captures (asked_rows profile (groups_of job.window l))
asked_among job captures false l lawful many turn = tt
asked_among job captures true l lawful many turn =
    subst (λ (n : ℕ). AreRowsAmong n (rows_of (groups_of job.window l))) many
    (rows_among job (groups_of job.window l) (answerable job l lawful turn.ordered turn.of_job))

pub written_among : (names : List (Items ℕ)) (job : Declared) (captures : ℕ) (l : List Summary) (written : Written) → IsLawful job → length job.captures ≡ captures → AreInTurn job l
    → HasAnswered names job written (groups_of job.window l) → AreRowsAmong captures written.profile
written_among names job captures l written lawful many turn h =
    subst (AreRowsAmong captures) (sym h.rows) (asked_among job captures job.profile l lawful many turn)

pub whole_report : (job : Declared) (names : List (Items ℕ)) (list : List Summary) (counts : List Counts) (text : List ℕ) → job.captures ≡ items_of names
    → text ≡ lines_of names job.query job.profile (groups_of job.window (by_stamp list)) counts (length list)
    → text ≡ report_over job (by_stamp list) counts
whole_report job names list counts text named is =
    let gs = groups_of job.window (by_stamp list) in
    is ∙ same_lines names job.query job.profile gs counts (length list)
    ∙ ap (λ (ns : List (Items ℕ)). lines_of ns job.query job.profile gs counts (length list)) (ap (map bare) (sym named))
    ∙ ap (λ (n : ℕ). lines_of (names_of job) job.query job.profile gs counts n) (sym (length-by_stamp list))
