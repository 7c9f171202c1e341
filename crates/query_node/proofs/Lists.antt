-- Lists by their places, and frames that are no end.
use Rattle.std.proofs.Common.{ℕ, zero, suc, ◌+◌, ◌<◌, ◌≡◌, true, false, List, [], ◌∷◌, ◌++◌, length, get_or, inl, inr, refl, sym, ap, ap₂, ◌∙◌, arith, append-nil, ⊎_elim}
use Rattle.std.specs.List.{sum_by}
use Rattle.std.proofs.lemmas.Bool.{cases_Bool}
use Rattle.std.proofs.lemmas.List.{length-map}
use Rattle.std.proofs.lemmas.List.Sums.{sum_by-cons}
use Rattle.ds_base.specs.Fronts.{IsIn}
use Rattle.node_frames.specs.declared.frame.Frame.{Frame}
use Rattle.node_frames.specs.declared.frame.Frame.TheVariants.{Item, Mark, CaptureEnd, GroupHead, Member, GroupMark, AnswerRow, Profile, CountsRow, Finish}
use Rattle.credit_link.specs.Ends.{RxSeen}
use Rattle.credit_link.specs.Frames.{has_finish}
use Rattle.round_law.specs.Links.{Receiver}
use Rattle.round_law.specs.Views.{receiver_view}
use Rattle.run_law.specs.Links.{MayFollow, AreLawful, Permits}
use Rattle.run_law.specs.Shapes.{IsFront}
use Rattle.run_law.proofs.Lists.{all_in}
use Rattle.node_lanes.specs.Ends.{given_on, receivers_of}
use Rattle.net_law.proofs.Meeting.{last_may_stand}
use Rattle.query_node.specs.Works.{taken_off}

pub get_same : {X : Type 0} (xs : List X) (j : ℕ) (d e : X) → j < length xs → get_or xs j d ≡ get_or xs j e
get_same [] j d e less = absurd (omega (arith, less))
get_same (x ∷ xs) zero d e less = refl
get_same (x ∷ xs) (suc j) d e less = get_same xs j d e (omega (arith, less))

pub lists_same : {X : Type 0} (d : X) (xs ys : List X) → length xs ≡ length ys → ((j : ℕ) → get_or xs j d ≡ get_or ys j d) → xs ≡ ys
lists_same d [] [] long each = refl
lists_same d [] (y ∷ ys) long each = absurd (omega (arith, long))
lists_same d (x ∷ xs) [] long each = absurd (omega (arith, long))
lists_same d (x ∷ xs) (y ∷ ys) long each = ap₂ (λ z zs. z ∷ zs) (each 0) (lists_same d xs ys (omega (arith, long)) (λ j. each (suc j)))

-- ---- what was taken

pub taken_long : (ins : List RxSeen) → length (taken_off ins) ≡ length ins
taken_long ins = length-map ins (λ (r : RxSeen). r.given)

pub taken_same : (before after : List RxSeen) → length after ≡ length before → ((j : ℕ) → given_on after j ≡ given_on before j) → taken_off after ≡ taken_off before
taken_same before after long same = lists_same [] (taken_off after) (taken_off before) (taken_long after ∙ long ∙ sym (taken_long before)) same

pub sum_taken : (ins : List RxSeen) → sum_by (λ (r : Receiver). length r.given) (receivers_of ins) ≡ sum_by length (taken_off ins)
sum_taken [] = refl
sum_taken (r ∷ ins) =
    sum_by-cons (λ (x : Receiver). length x.given) (receiver_view r) (receivers_of ins) ∙ ap (λ (n : ℕ). length r.given + n) (sum_taken ins) ∙ sym (sum_by-cons length r.given (taken_off ins))

-- ---- the end of a link

pub finish_in : (xs : List Frame) → has_finish xs ≡ true → IsIn Finish xs
finish_in [] e = absurd (let h : false ≡ true = e in cc)
finish_in (Finish ∷ xs) e = inl refl
finish_in (Item s ∷ xs) e = inr (finish_in xs e)
finish_in (Mark c m ∷ xs) e = inr (finish_in xs e)
finish_in (CaptureEnd c ∷ xs) e = inr (finish_in xs e)
finish_in (GroupHead first members key ∷ xs) e = inr (finish_in xs e)
finish_in (Member at vals ∷ xs) e = inr (finish_in xs e)
finish_in (GroupMark m ∷ xs) e = inr (finish_in xs e)
finish_in (AnswerRow a ∷ xs) e = inr (finish_in xs e)
finish_in (Profile row ∷ xs) e = inr (finish_in xs e)
finish_in (CountsRow c counts ∷ xs) e = inr (finish_in xs e)

-- behind the end no frame may stand
pub none_behind : (Own : List Frame → Frame → Type 0) (xs : List Frame) (f : Frame) → MayFollow Own xs f → has_finish xs ≡ false
none_behind Own xs f may =
    ⊎_elim
    (λ (t : has_finish xs ≡ true). absurd (all_in (λ earlier. Permits earlier f) Finish xs may.permitted (finish_in xs t)))
    (λ (none : has_finish xs ≡ false). none)
    (cases_Bool (has_finish xs))

pub open_before : (Own : List Frame → Frame → Type 0) (xs : List Frame) (f : Frame) → AreLawful Own (xs ++ f ∷ []) → has_finish xs ≡ false
open_before Own xs f lawful = none_behind Own xs f (last_may_stand Own (xs ++ f ∷ []) xs f lawful (record { rest = []; joined = sym (append-nil (xs ++ f ∷ [])) }))

-- ---- fronts

pub none_front : {X : Type 0} (xs ys : List X) → xs ≡ [] → IsFront xs ys
none_front xs ys none = record { rest = ys; joined = ap (λ zs. zs ++ ys) (sym none) }
