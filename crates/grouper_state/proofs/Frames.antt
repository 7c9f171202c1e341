-- One frame more behind those that were put for a processor.
use Rattle.std.proofs.Common.{ℕ, Bool, true, false, List, [], ◌∷◌, ◌++◌, ◌≡◌, ◌≤◌, ◌+◌, ◌⊎◌, Option, Some, None, inl, inr, refl, sym, ap, subst, ◌∙◌, ⊎_elim, append_assoc}
use Rattle.std.specs.Prelude.{◌||◌}
use Rattle.std.specs.List.{AllByRecursion}
use Rattle.std.proofs.lemmas.List.{append-nil}
use Rattle.std.proofs.lemmas.List.Sums.{sum_by_push}
use Rattle.credit_link.specs.Frames.{is_finish, has_finish}
use Rattle.ds_base.specs.Fronts.{IsIn}
use Rattle.ds_base.specs.Order.{Precedes}
use Rattle.ds_base.specs.declared.profile_row.ProfileRow.{ProfileRow}
use Rattle.ds_base.specs.declared.stamp.Stamp.{Stamp}
use Rattle.node_frames.specs.declared.frame.Frame.{Frame}
use Rattle.node_frames.specs.declared.frame.Frame.TheVariants.{Item, Mark, CaptureEnd, GroupHead, Member, GroupMark, AnswerRow, Profile, CountsRow, Finish}
use Rattle.summary_spec.specs.Declaration.{Declared}
use Rattle.run_law.specs.Links.{Permits, MayFollow, AreLawfulBehind, AreLawful, AreLawfulGroups, GroupRule, members_of, members_announced}
use Rattle.run_law.specs.Sent.{Begun, Saying, begun_after, whole_with, begun_behind, groups_behind, begun_in, groups_in, bound_after, bound_in}
use Rattle.run_law.proofs.Lists.{in_all, in_either}
use Rattle.run_law.proofs.More.{bound-append}
use Rattle.run_law.proofs.Standing.{stands}

lawful_joined : (Own : List Frame → Frame → Type 0) (before xs ys : List Frame) → AreLawfulBehind Own before xs → AreLawfulBehind Own (before ++ xs) ys
    → AreLawfulBehind Own before (xs ++ ys)
lawful_joined Own before [] ys h k = subst (λ b. AreLawfulBehind Own b ys) (append-nil before) k
lawful_joined Own before (x ∷ xs) ys h k =
    (h.0, lawful_joined Own (before ++ x ∷ []) xs ys h.1 (subst (λ b. AreLawfulBehind Own b ys) (sym (append_assoc before (x ∷ []) xs)) k))

pub lawful_push : (Own : List Frame → Frame → Type 0) (xs : List Frame) (f : Frame) → AreLawful Own xs → MayFollow Own xs f → AreLawful Own (xs ++ f ∷ [])
lawful_push Own xs f h may = lawful_joined Own [] xs (f ∷ []) h (may, tt)

pub bound_push : (says : Frame → Saying) (xs : List Frame) (f : Frame) → bound_in says (xs ++ f ∷ []) ≡ bound_after (bound_in says xs) (says f)
bound_push says xs f = bound-append says (Some 0) xs (f ∷ [])

begun_from : (begun : Option Begun) (xs : List Frame) (f : Frame) → begun_behind begun (xs ++ f ∷ []) ≡ begun_after (begun_behind begun xs) f
begun_from begun [] f = refl
begun_from begun (x ∷ xs) f = begun_from (begun_after begun x) xs f

groups_from : (begun : Option Begun) (xs : List Frame) (f : Frame) → groups_behind begun (xs ++ f ∷ []) ≡ groups_behind begun xs ++ whole_with (begun_behind begun xs) f
groups_from begun [] f = append-nil (whole_with begun f)
groups_from begun (x ∷ xs) f =
    ap (λ gs. whole_with begun x ++ gs) (groups_from (begun_after begun x) xs f)
    ∙ sym (append_assoc (whole_with begun x) (groups_behind (begun_after begun x) xs) (whole_with (begun_behind (begun_after begun x) xs) f))

pub begun_push : (xs : List Frame) (f : Frame) → begun_in (xs ++ f ∷ []) ≡ begun_after (begun_in xs) f
begun_push xs f = begun_from None xs f

pub groups_push : (xs : List Frame) (f : Frame) → groups_in (xs ++ f ∷ []) ≡ groups_in xs ++ whole_with (begun_in xs) f
groups_push xs f = groups_from None xs f

pub announced_push : (xs : List Frame) (f : Frame) → members_announced (xs ++ f ∷ []) ≡ members_announced xs + members_of f
announced_push xs f = sum_by_push members_of xs f

pub or_false : (b : Bool) → b || false ≡ b
or_false true = refl
or_false false = refl

pub finish_push : (xs : List Frame) (f : Frame) → has_finish (xs ++ f ∷ []) ≡ has_finish xs || is_finish f
finish_push [] f = or_false (is_finish f)
finish_push (x ∷ xs) f = ap (λ b. is_finish x || b) (finish_push xs f) ∙ or_assoc (is_finish x) (has_finish xs) (is_finish f)
  where
    or_assoc : (a b c : Bool) → a || (b || c) ≡ (a || b) || c
    or_assoc true b c = refl
    or_assoc false b c = refl

pub in_push : (z : Frame) (xs : List Frame) (f : Frame) → IsIn z (xs ++ f ∷ []) → IsIn z xs ⊎ (z ≡ f)
in_push z xs f h =
    ⊎_elim
    (λ (early : IsIn z xs). inl early)
    (λ (late : IsIn z (f ∷ [])). inr (⊎_elim (λ (e : z ≡ f). e) (λ (none : ⊥). absurd none) late))
    (in_either z xs (f ∷ []) h)

-- ---- the end

in_finish : (xs : List Frame) → IsIn Finish xs → has_finish xs ≡ true
in_finish [] h = absurd h
in_finish (x ∷ xs) (inl e) = ap (λ (f : Frame). is_finish f || has_finish xs) (sym e)
in_finish (x ∷ xs) (inr l) = ap (λ b. is_finish x || b) (in_finish xs l) ∙ or_true (is_finish x)
  where
    or_true : (b : Bool) → b || true ≡ true
    or_true true = refl
    or_true false = refl

pub none_finish : (xs : List Frame) → has_finish xs ≡ false → IsIn Finish xs → ⊥
none_finish xs none h = let there = in_finish xs h in let bad : true ≡ false = sym there ∙ none in absurd (cc)

pub said_finish : (xs : List Frame) (finished : Bool) → has_finish xs ≡ finished → IsIn Finish xs → finished ≡ true
said_finish xs finished e h = sym e ∙ in_finish xs h

pub of_finish : (xs : List Frame) → has_finish xs ≡ true → IsIn Finish xs
of_finish [] h = absurd (cc)
of_finish (Finish ∷ xs) h = inl refl
of_finish (Item s ∷ xs) h = inr (of_finish xs h)
of_finish (Mark c m ∷ xs) h = inr (of_finish xs h)
of_finish (CaptureEnd c ∷ xs) h = inr (of_finish xs h)
of_finish (GroupHead first members key ∷ xs) h = inr (of_finish xs h)
of_finish (Member at vals ∷ xs) h = inr (of_finish xs h)
of_finish (GroupMark m ∷ xs) h = inr (of_finish xs h)
of_finish (AnswerRow a ∷ xs) h = inr (of_finish xs h)
of_finish (Profile row ∷ xs) h = inr (of_finish xs h)
of_finish (CountsRow c counts ∷ xs) h = inr (of_finish xs h)

-- ---- what is permitted

no_profile : (job : Declared) (xs : List Frame) (row : ProfileRow) → AreLawfulGroups job xs → IsIn (Profile row) xs → ⊥
no_profile job xs row lawful there = (stands (GroupRule job) xs (Profile row) lawful there).own

-- where the end was not put
pub head_permitted : (xs : List Frame) (first : Stamp) (members : ℕ) (key : List ℕ) → ((m : ℕ) → IsIn (GroupMark m) xs → m ≤ first.time)
    → ((before : Stamp) (n : ℕ) (k : List ℕ) → IsIn (GroupHead before n k) xs → Precedes before first)
    → (IsIn Finish xs → ⊥) → AllByRecursion (λ earlier. Permits earlier (GroupHead first members key)) xs
head_permitted xs first members key marks heads end = in_all (λ earlier. Permits earlier (GroupHead first members key)) xs by_frame
  where
    by_frame : (f : Frame) → IsIn f xs → Permits f (GroupHead first members key)
    by_frame (Item t) h = tt
    by_frame (Mark c mark) h = tt
    by_frame (CaptureEnd c) h = tt
    by_frame (GroupHead before n k) h = heads before n k h
    by_frame (Member at vals) h = tt
    by_frame (GroupMark mark) h = marks mark h
    by_frame (AnswerRow b) h = tt
    by_frame (Profile row) h = tt
    by_frame (CountsRow c counts) h = tt
    by_frame Finish h = end h

pub member_permitted : (xs : List Frame) (at : Stamp) (vals : List ℕ) → (IsIn Finish xs → ⊥) → AllByRecursion (λ earlier. Permits earlier (Member at vals)) xs
member_permitted xs at vals end = in_all (λ earlier. Permits earlier (Member at vals)) xs by_frame
  where
    by_frame : (f : Frame) → IsIn f xs → Permits f (Member at vals)
    by_frame (Item t) h = tt
    by_frame (Mark c mark) h = tt
    by_frame (CaptureEnd c) h = tt
    by_frame (GroupHead first members key) h = tt
    by_frame (Member other others) h = tt
    by_frame (GroupMark mark) h = tt
    by_frame (AnswerRow b) h = tt
    by_frame (Profile row) h = tt
    by_frame (CountsRow c counts) h = tt
    by_frame Finish h = end h

pub mark_permitted : (job : Declared) (xs : List Frame) (next : ℕ) → AreLawfulGroups job xs → ((m : ℕ) → IsIn (GroupMark m) xs → m ≤ next)
    → (IsIn Finish xs → ⊥) → AllByRecursion (λ earlier. Permits earlier (GroupMark next)) xs
mark_permitted job xs next lawful marks end = in_all (λ earlier. Permits earlier (GroupMark next)) xs by_frame
  where
    by_frame : (f : Frame) → IsIn f xs → Permits f (GroupMark next)
    by_frame (Item t) h = tt
    by_frame (Mark c mark) h = tt
    by_frame (CaptureEnd c) h = tt
    by_frame (GroupHead first members key) h = tt
    by_frame (Member at vals) h = tt
    by_frame (GroupMark mark) h = marks mark h
    by_frame (AnswerRow b) h = tt
    by_frame (Profile row) h = no_profile job xs row lawful h
    by_frame (CountsRow c counts) h = tt
    by_frame Finish h = end h

pub end_permitted : (xs : List Frame) → (IsIn Finish xs → ⊥) → AllByRecursion (λ earlier. Permits earlier Finish) xs
end_permitted xs end = in_all (λ earlier. Permits earlier Finish) xs by_frame
  where
    by_frame : (f : Frame) → IsIn f xs → Permits f Finish
    by_frame (Item t) h = tt
    by_frame (Mark c mark) h = tt
    by_frame (CaptureEnd c) h = tt
    by_frame (GroupHead first members key) h = tt
    by_frame (Member at vals) h = tt
    by_frame (GroupMark mark) h = tt
    by_frame (AnswerRow b) h = tt
    by_frame (Profile row) h = tt
    by_frame (CountsRow c counts) h = tt
    by_frame Finish h = end h
