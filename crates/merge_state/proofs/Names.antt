-- The room that the names of captures have in memory does not show in the lines.
use Rattle.std.proofs.Common.{ℕ, zero, suc, List, [], ◌∷◌, ◌≡◌, map, length, refl, arith}
use Rattle.answer_text.specs.Lines.{answer_text, capture_text, profile_text, verdict_text}
use Rattle.answer_text.specs.Pieces.{name_of}
use Rattle.central_report.specs.Report.{bare}
use Rattle.ds_base.specs.Items.{Items}
use Rattle.ds_base.specs.declared.capture.Counts.{Counts}
use Rattle.ds_base.specs.declared.profile_row.ProfileRow.{ProfileRow}
use Rattle.ds_base.specs.declared.verdict.Answer.{Answer}
use Rattle.ds_base.specs.declared.verdict.Verdict.{Verdict}
use Rattle.ds_base.specs.declared.verdict.Verdict.TheVariants.{Fine, Loop, Dropped, Path, Rewrite, Value, Undefined}
use Rattle.summary_spec.specs.Declaration.{items_of}

pub as_many : (names : List (Items ℕ)) → length (items_of names) ≡ length names
as_many [] = refl
as_many (x ∷ xs) = omega (arith, as_many xs)

same_name : (names : List (Items ℕ)) (n : ℕ) → name_of names n ≡ name_of (map bare (items_of names)) n
same_name [] n = refl
same_name (x ∷ xs) zero = refl
same_name (x ∷ xs) (suc n) = same_name xs n

same_verdict : (names : List (Items ℕ)) (v : Verdict) → verdict_text names v ≡ verdict_text (map bare (items_of names)) v
same_verdict names Fine = refl
same_verdict names (Loop capture high low) = rw (same_name names capture) refl
same_verdict names (Dropped capture) = rw (same_name names capture) refl
same_verdict names (Path at) = refl
same_verdict names (Rewrite pair rule) = refl
same_verdict names (Value n) = refl
same_verdict names Undefined = refl

pub same_answer : (names : List (Items ℕ)) (a : Answer) → answer_text names a ≡ answer_text (map bare (items_of names)) a
same_answer names a = rw (same_name names a.first.capture, same_verdict names a.verdict) refl

pub same_row : (names : List (Items ℕ)) (row : ProfileRow) → profile_text names row ≡ profile_text (map bare (items_of names)) row
same_row names row = rw (same_name names row.from, same_name names row.to) refl

pub same_capture : (names : List (Items ℕ)) (capture : ℕ) (counts : Counts) → capture_text names capture counts ≡ capture_text (map bare (items_of names)) capture counts
same_capture names capture counts = rw (same_name names capture) refl
