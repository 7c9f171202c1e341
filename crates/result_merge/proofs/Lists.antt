-- Lists by their places, and what was taken on links of two kinds.
use Rattle.std.proofs.Common.{ℕ, zero, suc, ◌-◌, ◌<◌, ◌≤◌, ◌≡◌, ◌||◌, Bool, true, false, List, [], ◌∷◌, ◌++◌, length, get_or, set, inl, inr, refl, sym, ap, ap₂, ◌∙◌, subst, arith, append-nil, append_assoc, ⊎_elim}
use Rattle.std.proofs.lemmas.Bool.{cases_Bool}
use Rattle.std.proofs.lemmas.List.{length-map, length-set, get_or_append_left, get_or-append_right, set-append_left, set-append_right}
use Rattle.ds_base.specs.Fronts.{IsIn}
use Rattle.node_frames.specs.declared.frame.Frame.{Frame}
use Rattle.node_frames.specs.declared.frame.Frame.TheVariants.{Item, Mark, CaptureEnd, GroupHead, Member, GroupMark, AnswerRow, Profile, CountsRow, Finish}
use Rattle.credit_link.specs.Ends.{RxSeen}
use Rattle.credit_link.specs.Frames.{is_finish, has_finish, FinishIsLast}
use Rattle.run_law.specs.Links.{MayFollow, AreLawful, AreLawfulBehind, Permits}
use Rattle.run_law.proofs.Lists.{all_in}
use Rattle.node_lanes.specs.Ends.{given_on}
use Rattle.result_merge.specs.Works.{taken_off, taken_on, taken_more}

pub get_same : {X : Type 0} (xs : List X) (j : ℕ) (d e : X) → j < length xs → get_or xs j d ≡ get_or xs j e
get_same [] j d e less = absurd (omega (arith, less))
get_same (x ∷ xs) zero d e less = refl
get_same (x ∷ xs) (suc j) d e less = get_same xs j d e (omega (arith, less))

pub lists_same : {X : Type 0} (d : X) (xs ys : List X) → length xs ≡ length ys → ((j : ℕ) → get_or xs j d ≡ get_or ys j d) → xs ≡ ys
lists_same d [] [] long each = refl
lists_same d [] (y ∷ ys) long each = absurd (omega (arith, long))
lists_same d (x ∷ xs) [] long each = absurd (omega (arith, long))
lists_same d (x ∷ xs) (y ∷ ys) long each = ap₂ (λ z zs. z ∷ zs) (each 0) (lists_same d xs ys (omega (arith, long)) (λ j. each (suc j)))

-- ---- what was taken

pub taken_long : (ins : List RxSeen) → length (taken_off ins) ≡ length ins
taken_long ins = length-map ins (λ (r : RxSeen). r.given)

pub taken_same : (before after : List RxSeen) → length after ≡ length before → ((j : ℕ) → given_on after j ≡ given_on before j) → taken_off after ≡ taken_off before
taken_same before after long same = lists_same [] (taken_off after) (taken_off before) (taken_long after ∙ long ∙ sym (taken_long before)) same

pub more_long : (taken : List (List Frame)) (j : ℕ) (frame : Frame) → length (taken_more taken j frame) ≡ length taken
more_long taken j frame = length-set taken j (taken_on taken j ++ frame ∷ [])

-- ---- links of parsers, and behind them links of processors

pub on_left : (counts answers : List (List Frame)) (j : ℕ) → j < length counts → taken_on (counts ++ answers) j ≡ taken_on counts j
on_left counts answers j less = get_or_append_left counts answers [] j less

pub on_right : (counts answers : List (List Frame)) (parsers j : ℕ) → length counts ≡ parsers → parsers ≤ j → taken_on (counts ++ answers) j ≡ taken_on answers (j - parsers)
on_right counts answers parsers j long past = get_or-append_right counts answers parsers j [] long past

pub more_left : (counts answers : List (List Frame)) (j : ℕ) (frame : Frame) → j < length counts → taken_more counts j frame ++ answers ≡ taken_more (counts ++ answers) j frame
more_left counts answers j frame less =
    sym (set-append_left counts answers j (taken_on counts j ++ frame ∷ []) less)
    ∙ ap (λ (fs : List Frame). set (counts ++ answers) j (fs ++ frame ∷ [])) (sym (on_left counts answers j less))

pub more_right : (counts answers : List (List Frame)) (parsers j : ℕ) (frame : Frame) → length counts ≡ parsers → parsers ≤ j
    → counts ++ taken_more answers (j - parsers) frame ≡ taken_more (counts ++ answers) j frame
more_right counts answers parsers j frame long past =
    sym (set-append_right counts answers parsers j (taken_on answers (j - parsers) ++ frame ∷ []) long past)
    ∙ ap (λ (fs : List Frame). set (counts ++ answers) j (fs ++ frame ∷ [])) (sym (on_right counts answers parsers j long past))

-- ---- lawful frames

pub lawful_joined : (Own : List Frame → Frame → Type 0) (before xs ys : List Frame) → AreLawfulBehind Own before xs → AreLawfulBehind Own (before ++ xs) ys
    → AreLawfulBehind Own before (xs ++ ys)
lawful_joined Own before [] ys h k = subst (λ b. AreLawfulBehind Own b ys) (append-nil before) k
lawful_joined Own before (x ∷ xs) ys h k =
    (h.0, lawful_joined Own (before ++ x ∷ []) xs ys h.1 (subst (λ b. AreLawfulBehind Own b ys) (sym (append_assoc before (x ∷ []) xs)) k))

pub lawful_push : (Own : List Frame → Frame → Type 0) (xs : List Frame) (f : Frame) → AreLawful Own xs → MayFollow Own xs f → AreLawful Own (xs ++ f ∷ [])
lawful_push Own xs f h may = lawful_joined Own [] xs (f ∷ []) h (may, tt)

-- ---- the end of a link

pub finish_in : (xs : List Frame) → has_finish xs ≡ true → IsIn Finish xs
finish_in [] e = absurd (let h : false ≡ true = e in cc)
finish_in (Finish ∷ xs) e = inl refl
finish_in (Item s ∷ xs) e = inr (finish_in xs e)
finish_in (Mark c m ∷ xs) e = inr (finish_in xs e)
finish_in (CaptureEnd c ∷ xs) e = inr (finish_in xs e)
finish_in (GroupHead first members key ∷ xs) e = inr (finish_in xs e)
finish_in (Member at vals ∷ xs) e = inr (finish_in xs e)
finish_in (GroupMark m ∷ xs) e = inr (finish_in xs e)
finish_in (AnswerRow a ∷ xs) e = inr (finish_in xs e)
finish_in (Profile row ∷ xs) e = inr (finish_in xs e)
finish_in (CountsRow c counts ∷ xs) e = inr (finish_in xs e)

none_behind : (Own : List Frame → Frame → Type 0) (xs : List Frame) (f : Frame) → MayFollow Own xs f → has_finish xs ≡ false
none_behind Own xs f may =
    ⊎_elim
    (λ (t : has_finish xs ≡ true). absurd (all_in (λ earlier. Permits earlier f) Finish xs may.permitted (finish_in xs t)))
    (λ (none : has_finish xs ≡ false). none)
    (cases_Bool (has_finish xs))

or_true : (b : Bool) → b || true ≡ true
or_true true = refl
or_true false = refl

finish_push : (xs : List Frame) (f : Frame) → is_finish f ≡ true → has_finish (xs ++ f ∷ []) ≡ true
finish_push [] f e = ap (λ (b : Bool). b || false) e
finish_push (x ∷ xs) f e = ap (λ (b : Bool). is_finish x || b) (finish_push xs f e) ∙ or_true (is_finish x)

-- of lawful frames the end is last
pub lawful_last : (Own : List Frame → Frame → Type 0) (before frames : List Frame) → AreLawfulBehind Own before frames → FinishIsLast frames
lawful_last Own before [] lawful = tt
lawful_last Own before (f ∷ []) lawful = ((λ e. refl), tt)
lawful_last Own before (f ∷ g ∷ gs) lawful = (
  (λ e. absurd (
      let none : has_finish (before ++ f ∷ []) ≡ false = none_behind Own (before ++ f ∷ []) g lawful.1.0 in
      let some : has_finish (before ++ f ∷ []) ≡ true = finish_push before f e in
      let wrong : true ≡ false = sym some ∙ none in
      cc)),
  lawful_last Own (before ++ f ∷ []) (g ∷ gs) lawful.1,
)
