-- Lists by their places, frames that are no end, and captures that have ended.
use Rattle.std.proofs.Common.{ℕ, zero, suc, ◌+◌, ◌%◌, ◌<◌, ◌≡◌, true, false, Option, None, Some, List, [], ◌∷◌, ◌++◌, length, get_or, set, inl, inr, refl, sym, ap, ap₂, ◌∙◌, arith, append-nil, append_assoc, length-append, map, ⊎_elim}
use Rattle.std.specs.Prelude.{◌==◌}
use Rattle.std.specs.List.{sum_by}
use Rattle.std.proofs.lemmas.Bool.{cases_Bool, eq-eqb}
use Rattle.std.proofs.lemmas.List.{length-map}
use Rattle.std.proofs.lemmas.List.Sums.{sum_by-cons}
use Rattle.std.proofs.lemmas.Nat.{mod_below}
use Rattle.ds_base.specs.Fronts.{IsIn}
use Rattle.node_frames.specs.declared.frame.Frame.{Frame}
use Rattle.node_frames.specs.declared.frame.Frame.TheVariants.{Item, Mark, CaptureEnd, GroupHead, Member, GroupMark, AnswerRow, Profile, CountsRow, Finish}
use Rattle.credit_link.specs.Ends.{TxSeen, RxSeen}
use Rattle.credit_link.specs.Frames.{has_finish}
use Rattle.shuffle_poll.specs.Shuffles.{ShuffleSeen}
use Rattle.summary_spec.specs.Declaration.{Declared}
use Rattle.round_law.specs.Links.{Receiver}
use Rattle.round_law.specs.Views.{receiver_view}
use Rattle.run_law.specs.Links.{MayFollow, AreLawful, AreLawfulItems, ItemRule, Permits}
use Rattle.run_law.specs.Nodes.{below, least_of_captures}
use Rattle.run_law.specs.Sent.{Saying, of_items, bound_after, bound_behind, bound_in}
use Rattle.run_law.specs.Shapes.{Shape}
use Rattle.run_law.proofs.Ended.{none_stays, none_after_end, least_none}
use Rattle.run_law.proofs.Lists.{all_in, in_front, of_below}
use Rattle.run_law.proofs.Standing.{stands}
use Rattle.node_lanes.specs.Ends.{given_on, put_on, puts_with, receivers_of}
use Rattle.net_law.proofs.Meeting.{last_may_stand}
use Rattle.grouper_node.specs.Works.{taken_off, puts_of}

pub get_same : {X : Type 0} (xs : List X) (j : ℕ) (d e : X) → j < length xs → get_or xs j d ≡ get_or xs j e
get_same [] j d e less = absurd (omega (arith, less))
get_same (x ∷ xs) zero d e less = refl
get_same (x ∷ xs) (suc j) d e less = get_same xs j d e (omega (arith, less))

pub lists_same : {X : Type 0} (d : X) (xs ys : List X) → length xs ≡ length ys → ((j : ℕ) → get_or xs j d ≡ get_or ys j d) → xs ≡ ys
lists_same d [] [] long each = refl
lists_same d [] (y ∷ ys) long each = absurd (omega (arith, long))
lists_same d (x ∷ xs) [] long each = absurd (omega (arith, long))
lists_same d (x ∷ xs) (y ∷ ys) long each = ap₂ (λ z zs. z ∷ zs) (each 0) (lists_same d xs ys (omega (arith, long)) (λ j. each (suc j)))

-- ---- what was taken

pub taken_long : (ins : List RxSeen) → length (taken_off ins) ≡ length ins
taken_long ins = length-map ins (λ (r : RxSeen). r.given)

pub taken_same : (before after : List RxSeen) → length after ≡ length before → ((j : ℕ) → given_on after j ≡ given_on before j) → taken_off after ≡ taken_off before
taken_same before after long same = lists_same [] (taken_off after) (taken_off before) (taken_long after ∙ long ∙ sym (taken_long before)) same

pub sum_taken : (ins : List RxSeen) → sum_by (λ (r : Receiver). length r.given) (receivers_of ins) ≡ sum_by length (taken_off ins)
sum_taken [] = refl
sum_taken (r ∷ ins) =
    sum_by-cons (λ (x : Receiver). length x.given) (receiver_view r) (receivers_of ins) ∙ ap (λ (n : ℕ). length r.given + n) (sum_taken ins) ∙ sym (sum_by-cons length r.given (taken_off ins))

-- ---- what was put

with_long : (links : List TxSeen) (queues : List (List Frame)) → length (puts_with links queues) ≡ length links
with_long [] queues = refl
with_long (l ∷ links) [] = ap suc (with_long links [])
with_long (l ∷ links) (q ∷ queues) = ap suc (with_long links queues)

pub puts_long : (outs : ShuffleSeen) → length (puts_of outs) ≡ length outs.links
puts_long outs = with_long outs.links outs.queues

pub puts_alike : (before after : ShuffleSeen) → length after.links ≡ length before.links → ((k : ℕ) → put_on after k ≡ put_on before k) → puts_of after ≡ puts_of before
puts_alike before after long same = lists_same [] (puts_of after) (puts_of before) (puts_long after ∙ long ∙ sym (puts_long before)) same

-- one frame more waits for link q
pub one_waits : (links : List TxSeen) (queues : List (List Frame)) (q : ℕ) (f : Frame) → length queues ≡ length links
    → puts_with links (set queues q (get_or queues q [] ++ f ∷ [])) ≡ set (puts_with links queues) q (get_or (puts_with links queues) q [] ++ f ∷ [])
one_waits [] [] q f long = refl
one_waits [] (w ∷ queues) q f long = absurd (omega (arith, long))
one_waits (l ∷ links) [] q f long = absurd (omega (arith, long))
one_waits (l ∷ links) (w ∷ queues) zero f long = ap (λ (x : List Frame). x ∷ puts_with links queues) (sym (append_assoc l.offered w (f ∷ [])))
one_waits (l ∷ links) (w ∷ queues) (suc q) f long = ap (λ (xs : List (List Frame)). (l.offered ++ w) ∷ xs) (one_waits links queues q f (omega (arith, long)))

-- one frame more waits for each link
pub all_wait : (links : List TxSeen) (queues queues' : List (List Frame)) (f : Frame) → ((k : ℕ) → k < length links → get_or queues' k [] ≡ get_or queues k [] ++ f ∷ [])
    → puts_with links queues' ≡ map (λ (frames : List Frame). frames ++ f ∷ []) (puts_with links queues)
all_wait [] queues queues' f each = refl
all_wait (l ∷ links) queues [] f each =
    absurd (let long = ap length (each 0 (omega arith)) in let more = length-append (get_or queues 0 []) (f ∷ []) in omega (arith, long, more))
all_wait (l ∷ links) [] (w' ∷ queues') f each =
    ap₂ (λ (x : List Frame) (xs : List (List Frame)). x ∷ xs) (ap (λ (x : List Frame). l.offered ++ x) (each 0 (omega arith))) (all_wait links [] queues' f (λ k less. each (suc k) (omega (arith, less))))
all_wait (l ∷ links) (w ∷ queues) (w' ∷ queues') f each =
    ap₂ (λ (x : List Frame) (xs : List (List Frame)). x ∷ xs) (ap (λ (x : List Frame). l.offered ++ x) (each 0 (omega arith)) ∙ sym (append_assoc l.offered w (f ∷ [])))
    (all_wait links queues queues' f (λ k less. each (suc k) (omega (arith, less))))

-- ---- the end of a link

pub finish_in : (xs : List Frame) → has_finish xs ≡ true → IsIn Finish xs
finish_in [] e = absurd (let h : false ≡ true = e in cc)
finish_in (Finish ∷ xs) e = inl refl
finish_in (Item s ∷ xs) e = inr (finish_in xs e)
finish_in (Mark c m ∷ xs) e = inr (finish_in xs e)
finish_in (CaptureEnd c ∷ xs) e = inr (finish_in xs e)
finish_in (GroupHead first members key ∷ xs) e = inr (finish_in xs e)
finish_in (Member at vals ∷ xs) e = inr (finish_in xs e)
finish_in (GroupMark m ∷ xs) e = inr (finish_in xs e)
finish_in (AnswerRow a ∷ xs) e = inr (finish_in xs e)
finish_in (Profile row ∷ xs) e = inr (finish_in xs e)
finish_in (CountsRow c counts ∷ xs) e = inr (finish_in xs e)

-- behind the end no frame may stand
pub none_behind : (Own : List Frame → Frame → Type 0) (xs : List Frame) (f : Frame) → MayFollow Own xs f → has_finish xs ≡ false
none_behind Own xs f may =
    ⊎_elim
    (λ (t : has_finish xs ≡ true). absurd (all_in (λ earlier. Permits earlier f) Finish xs may.permitted (finish_in xs t)))
    (λ (none : has_finish xs ≡ false). none)
    (cases_Bool (has_finish xs))

pub open_before : (Own : List Frame → Frame → Type 0) (xs : List Frame) (f : Frame) → AreLawful Own (xs ++ f ∷ []) → has_finish xs ≡ false
open_before Own xs f lawful = none_behind Own xs f (last_may_stand Own (xs ++ f ∷ []) xs f lawful (record { rest = []; joined = sym (append-nil (xs ++ f ∷ [])) }))

-- ---- the ends of captures

says_end : (c : ℕ) → of_items c (CaptureEnd c) ≡ Some None
says_end c = let own : (c == c) ≡ true = eq-eqb c c refl in rw own refl

capture_ended : (c : ℕ) (bound : Option ℕ) (frames : List Frame) → IsIn (CaptureEnd c) frames → bound_behind (of_items c) bound frames ≡ None
capture_ended c bound [] h = absurd h
capture_ended c bound (f ∷ fs) (inl e) =
    ap (λ (z : Frame). bound_behind (of_items c) (bound_after bound (of_items c z)) fs) (sym e)
    ∙ ap (λ (o : Saying). bound_behind (of_items c) (bound_after bound o) fs) (says_end c)
    ∙ ap (λ (b : Option ℕ). bound_behind (of_items c) b fs) (none_after_end bound)
    ∙ none_stays (of_items c) fs
capture_ended c bound (f ∷ fs) (inr l) = capture_ended c (bound_after bound (of_items c f)) fs l

-- once each link has ended, each capture has
pub no_mark : (job : Declared) (shape : Shape) (me : ℕ) (taken : ℕ → List Frame) → 0 < shape.parsers → ((p : ℕ) → p < shape.parsers → AreLawfulItems job shape p me (taken p))
    → ((p : ℕ) → p < shape.parsers → has_finish (taken p) ≡ true) → least_of_captures job shape taken ≡ None
no_mark job shape me taken some lawful over =
    least_none (λ c. bound_in (of_items c) (taken (c % shape.parsers))) (below (length job.captures)) (λ c l.
    let p : ℕ = c % shape.parsers in
    let there : p < shape.parsers = mod_below c shape.parsers some in
    let end = stands (ItemRule job shape p me) (taken p) Finish (lawful p there) (finish_in (taken p) (over p there)) in
    let ended : IsIn (CaptureEnd c) end.before = end.own c (of_below (length job.captures) c l, refl) in
    capture_ended c (Some 0) (taken p) (in_front (CaptureEnd c) end.before (taken p) end.front ended))
