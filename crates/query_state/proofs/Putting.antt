-- One frame more behind those that were put.
use Rattle.std.proofs.Common.{ℕ, Bool, true, false, List, [], ◌∷◌, ◌++◌, ◌≡◌, ◌<◌, ◌≤◌, ◌+◌, ◌⊎◌, Option, Some, None, inl, inr, refl, sym, ap, subst, ◌∙◌, ⊎_elim, append_assoc, arith}
use Rattle.std.specs.Prelude.{◌||◌}
use Rattle.std.specs.List.{AllByRecursion}
use Rattle.std.proofs.lemmas.List.{append-nil}
use Rattle.std.proofs.lemmas.List.Sums.{sum_by-cons, sum_by-append}
use Rattle.credit_link.specs.Frames.{is_finish, has_finish}
use Rattle.ds_base.specs.Fronts.{IsIn}
use Rattle.ds_base.specs.declared.profile_row.ProfileRow.{ProfileRow}
use Rattle.ds_base.specs.declared.verdict.Answer.{Answer}
use Rattle.node_frames.specs.declared.frame.Frame.{Frame}
use Rattle.node_frames.specs.declared.frame.Frame.TheVariants.{Item, Mark, CaptureEnd, GroupHead, Member, GroupMark, AnswerRow, Profile, CountsRow, Finish}
use Rattle.profiles.specs.Rows.{PairPrecedes, AreRising}
use Rattle.run_law.specs.Links.{Permits, MayFollow, AreLawfulBehind, AreLawful, members_told, members_answered}
use Rattle.run_law.specs.Sent.{Saying, answer_in, answers_in, row_in, rows_in, bound_after, bound_behind, bound_in}
use Rattle.run_law.proofs.Lists.{in_all, in_flat, in_left, in_right, in_either, flat-append}
use Rattle.run_law.proofs.More.{bound-append}

lawful_joined : (Own : List Frame → Frame → Type 0) (before xs ys : List Frame) → AreLawfulBehind Own before xs → AreLawfulBehind Own (before ++ xs) ys
    → AreLawfulBehind Own before (xs ++ ys)
lawful_joined Own before [] ys h k = subst (λ b. AreLawfulBehind Own b ys) (append-nil before) k
lawful_joined Own before (x ∷ xs) ys h k =
    (h.0, lawful_joined Own (before ++ x ∷ []) xs ys h.1 (subst (λ b. AreLawfulBehind Own b ys) (sym (append_assoc before (x ∷ []) xs)) k))

pub lawful_push : (Own : List Frame → Frame → Type 0) (xs : List Frame) (f : Frame) → AreLawful Own xs → MayFollow Own xs f → AreLawful Own (xs ++ f ∷ [])
lawful_push Own xs f h may = lawful_joined Own [] xs (f ∷ []) h (may, tt)

pub answers_push : (xs : List Frame) (f : Frame) → answers_in (xs ++ f ∷ []) ≡ answers_in xs ++ answer_in f
answers_push xs f = flat-append answer_in xs (f ∷ []) ∙ ap (λ zs. answers_in xs ++ zs) (append-nil (answer_in f))

pub rows_push : (xs : List Frame) (f : Frame) → rows_in (xs ++ f ∷ []) ≡ rows_in xs ++ row_in f
rows_push xs f = flat-append row_in xs (f ∷ []) ∙ ap (λ zs. rows_in xs ++ zs) (append-nil (row_in f))

pub told_push : (xs : List Frame) (f : Frame) → members_answered (xs ++ f ∷ []) ≡ members_answered xs + members_told f
told_push xs f = sum_by-append members_told xs (f ∷ []) ∙ ap (λ (k : ℕ). members_answered xs + k) (sum_by-cons members_told f [] ∙ omega arith)

pub bound_push : (says : Frame → Saying) (xs : List Frame) (f : Frame) → bound_in says (xs ++ f ∷ []) ≡ bound_after (bound_in says xs) (says f)
bound_push says xs f = bound-append says (Some 0) xs (f ∷ [])

pub finish_push : (xs : List Frame) (f : Frame) → has_finish (xs ++ f ∷ []) ≡ has_finish xs || is_finish f
finish_push [] f = or_false (is_finish f)
  where
    or_false : (b : Bool) → b || false ≡ b
    or_false true = refl
    or_false false = refl
finish_push (x ∷ xs) f = ap (λ b. is_finish x || b) (finish_push xs f) ∙ or_assoc (is_finish x) (has_finish xs) (is_finish f)
  where
    or_assoc : (a b c : Bool) → a || (b || c) ≡ (a || b) || c
    or_assoc true b c = refl
    or_assoc false b c = refl

pub in_push : (z : Frame) (xs : List Frame) (f : Frame) → IsIn z (xs ++ f ∷ []) → IsIn z xs ⊎ (z ≡ f)
in_push z xs f h =
    ⊎_elim
    (λ (early : IsIn z xs). inl early)
    (λ (late : IsIn z (f ∷ [])). inr (⊎_elim (λ (e : z ≡ f). e) (λ (none : ⊥). absurd none) late))
    (in_either z xs (f ∷ []) h)

-- ---- the end, and rows of the profile

pub in_finish : (xs : List Frame) → IsIn Finish xs → has_finish xs ≡ true
in_finish [] h = absurd h
in_finish (x ∷ xs) (inl e) = ap (λ (f : Frame). is_finish f || has_finish xs) (sym e)
in_finish (x ∷ xs) (inr l) = ap (λ b. is_finish x || b) (in_finish xs l) ∙ or_true (is_finish x)
  where
    or_true : (b : Bool) → b || true ≡ true
    or_true true = refl
    or_true false = refl

pub none_finish : (xs : List Frame) → has_finish xs ≡ false → IsIn Finish xs → ⊥
none_finish xs none h = let there = in_finish xs h in let bad : true ≡ false = sym there ∙ none in absurd (cc)

pub in_rows : (row : ProfileRow) (xs : List Frame) → IsIn (Profile row) xs → IsIn row (rows_in xs)
in_rows row xs h = in_flat row_in (Profile row) row xs h (inl refl)

-- ---- rows that rise

precedes_next : (a b c : ProfileRow) → PairPrecedes a b → PairPrecedes b c → PairPrecedes a c
precedes_next a b c (inl p) (inl q) = inl (omega arith)
precedes_next a b c (inl p) (inr q) = inl (omega (arith, q.0))
precedes_next a b c (inr p) (inl q) = inl (omega (arith, p.0))
precedes_next a b c (inr p) (inr q) = inr (p.0 ∙ q.0, omega (arith, p.1, q.1))

pub rising_each : (xs ys : List ProfileRow) (row : ProfileRow) → AreRising (xs ++ row ∷ ys) → AllByRecursion (λ (e : ProfileRow). PairPrecedes e row) xs
rising_each [] ys row h = tt
rising_each (x ∷ []) ys row h = (h.0, tt)
rising_each (x ∷ y ∷ xs) ys row h =
    let rest = rising_each (y ∷ xs) ys row h.1 in (precedes_next x y row h.0 rest.0, rest)

-- ---- what is permitted

-- where the profile and the end were not put
pub answer_permitted : (xs : List Frame) (a : Answer) → ((m : ℕ) → IsIn (GroupMark m) xs → m ≤ a.first.time) → ((row : ProfileRow) → IsIn (Profile row) xs → ⊥)
    → (IsIn Finish xs → ⊥) → AllByRecursion (λ earlier. Permits earlier (AnswerRow a)) xs
answer_permitted xs a marks rows end = in_all (λ earlier. Permits earlier (AnswerRow a)) xs by_frame
  where
    by_frame : (f : Frame) → IsIn f xs → Permits f (AnswerRow a)
    by_frame (Item t) h = tt
    by_frame (Mark c mark) h = tt
    by_frame (CaptureEnd c) h = tt
    by_frame (GroupHead first members key) h = tt
    by_frame (Member at vals) h = tt
    by_frame (GroupMark mark) h = marks mark h
    by_frame (AnswerRow b) h = tt
    by_frame (Profile row) h = rows row h
    by_frame (CountsRow c counts) h = tt
    by_frame Finish h = end h

pub mark_permitted : (xs : List Frame) (next : ℕ) → ((m : ℕ) → IsIn (GroupMark m) xs → m ≤ next) → ((row : ProfileRow) → IsIn (Profile row) xs → ⊥)
    → (IsIn Finish xs → ⊥) → AllByRecursion (λ earlier. Permits earlier (GroupMark next)) xs
mark_permitted xs next marks rows end = in_all (λ earlier. Permits earlier (GroupMark next)) xs by_frame
  where
    by_frame : (f : Frame) → IsIn f xs → Permits f (GroupMark next)
    by_frame (Item t) h = tt
    by_frame (Mark c mark) h = tt
    by_frame (CaptureEnd c) h = tt
    by_frame (GroupHead first members key) h = tt
    by_frame (Member at vals) h = tt
    by_frame (GroupMark mark) h = marks mark h
    by_frame (AnswerRow b) h = tt
    by_frame (Profile row) h = rows row h
    by_frame (CountsRow c counts) h = tt
    by_frame Finish h = end h

pub row_permitted : (xs : List Frame) (next : ProfileRow) → ((row : ProfileRow) → IsIn (Profile row) xs → PairPrecedes row next)
    → (IsIn Finish xs → ⊥) → AllByRecursion (λ earlier. Permits earlier (Profile next)) xs
row_permitted xs next rows end = in_all (λ earlier. Permits earlier (Profile next)) xs by_frame
  where
    by_frame : (f : Frame) → IsIn f xs → Permits f (Profile next)
    by_frame (Item t) h = tt
    by_frame (Mark c mark) h = tt
    by_frame (CaptureEnd c) h = tt
    by_frame (GroupHead first members key) h = tt
    by_frame (Member at vals) h = tt
    by_frame (GroupMark mark) h = tt
    by_frame (AnswerRow b) h = tt
    by_frame (Profile row) h = rows row h
    by_frame (CountsRow c counts) h = tt
    by_frame Finish h = end h

pub end_permitted : (xs : List Frame) → (IsIn Finish xs → ⊥) → AllByRecursion (λ earlier. Permits earlier Finish) xs
end_permitted xs end = in_all (λ earlier. Permits earlier Finish) xs by_frame
  where
    by_frame : (f : Frame) → IsIn f xs → Permits f Finish
    by_frame (Item t) h = tt
    by_frame (Mark c mark) h = tt
    by_frame (CaptureEnd c) h = tt
    by_frame (GroupHead first members key) h = tt
    by_frame (Member at vals) h = tt
    by_frame (GroupMark mark) h = tt
    by_frame (AnswerRow b) h = tt
    by_frame (Profile row) h = tt
    by_frame (CountsRow c counts) h = tt
    by_frame Finish h = end h
