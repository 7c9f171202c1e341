-- The summaries of a list are taken up one after another, in the order of their stamps.
use Rattle.std.proofs.Common.{ℕ, List, [], ◌∷◌, ◌++◌, ◌≡◌, ◌<◌, ◌≤◌, ◌∙◌, Some, refl, sym, ap, subst, arith, length, length-append, append_assoc}
use Rattle.std.specs.Prelude.{slice_get}
use Rattle.std.specs.List.{AllByRecursion}
use Rattle.std.proofs.lemmas.List.{append-nil}
use Rattle.std.proofs.lemmas.List.Elements.{All-nil, All-from_recursion, recursion_from_All}
use Rattle.std.proofs.lemmas.Option.{slice_get_within}
use Rattle.ds_base.specs.Items.{Items}
use Rattle.ds_base.specs.Order.{PrecedesAll, InStampOrder}
use Rattle.ds_base.specs.declared.stamp.Stamp.{Stamp}
use Rattle.ds_base.specs.declared.summary.Summary.{Summary}
use Rattle.summary_spec.specs.Declaration.{Declared}
use Rattle.window_grouper.specs.Open.{Open, HasPlaced}
use Rattle.window_grouper.specs.Positions.{ArePlaces}
use Rattle.window_grouper.specs.Sorted.{by_stamp}
use Rattle.window_grouper.proofs.Covers.{not_before}
use Rattle.central_report.specs.Laws.{IsSummaryOf}
use Rattle.central_report.specs.Progress.{AreInTurn, HasAnswered, HasLeft, HasTaken, IsNextOf}
use Rattle.central_report.specs.declared.written.Written.{Written}
use Rattle.central_report.proofs.Taking.{taken_left}

-- `front` was taken up by this time, and the places are those of the summaries after it
pub record IsUnderway (names : List (Items ℕ)) (job : Declared) (list : List Summary) (places : List ℕ) (groups : Open) (written : Written) : Type 0 where
  pub front : List Summary
  pub rest : List Summary
  pub whole : front ++ rest ≡ by_stamp list
  pub left : ArePlaces list places rest
  pub time : ℕ
  pub taken : HasTaken names job groups written front time
  pub later : AllByRecursion (λ s. time ≤ s.at.time) rest

-- ---- the front of a list

precedes_front : (at : Stamp) (xs ys : List Summary) → PrecedesAll at (xs ++ ys) → PrecedesAll at xs
precedes_front at [] ys h = tt
precedes_front at (x ∷ xs) ys h = (h.0, precedes_front at xs ys h.1)

order_front : (xs ys : List Summary) → InStampOrder (xs ++ ys) → InStampOrder xs
order_front [] ys h = tt
order_front (x ∷ xs) ys h = (precedes_front x.at xs ys h.0, order_front xs ys h.1)

order_behind : (xs ys : List Summary) → InStampOrder (xs ++ ys) → InStampOrder ys
order_behind [] ys h = h
order_behind (x ∷ xs) ys h = order_behind xs ys h.1

all_front : (P : Summary → Type 0) (xs ys : List Summary) → AllByRecursion P (xs ++ ys) → AllByRecursion P xs
all_front P [] ys h = tt
all_front P (x ∷ xs) ys h = (h.0, all_front P xs ys h.1)

turn_front : (job : Declared) (xs ys l : List Summary) → xs ++ ys ≡ l → AreInTurn job l → AreInTurn job xs
turn_front job xs ys l whole h =
    let same : AreInTurn job (xs ++ ys) = subst (AreInTurn job) (sym whole) h in
    record {
      ordered = order_front xs ys same.ordered;
      of_job = All-from_recursion (IsSummaryOf job) xs (all_front (IsSummaryOf job) xs ys (recursion_from_All (IsSummaryOf job) (xs ++ ys) same.of_job));
      few = omega (arith, length-append xs ys, same.few);
    }

-- ---- the beginning

from_zero : (l : List Summary) → AllByRecursion (λ s. 0 ≤ s.at.time) l
from_zero [] = tt
from_zero (s ∷ l) = (omega arith, from_zero l)

nothing_taken : (names : List (Items ℕ)) (job : Declared) (groups : Open) (written : Written) → HasPlaced groups job.window [] [] 0 → HasAnswered names job written []
    → HasTaken names job groups written [] 0
nothing_taken names job groups written placed answered = record {
  in_turn = record { ordered = tt; of_job = All-nil (IsSummaryOf job); few = omega arith };
  given = [];
  placed = placed;
  answered = answered;
}

pub under_none : (names : List (Items ℕ)) (job : Declared) (list : List Summary) (places : List ℕ) (groups : Open) (written : Written)
    → ArePlaces list places (by_stamp list) → HasPlaced groups job.window [] [] 0 → HasAnswered names job written []
    → IsUnderway names job list places groups written
under_none names job list places groups written left placed answered = record {
  front = [];
  rest = by_stamp list;
  whole = refl;
  left = left;
  time = 0;
  taken = nothing_taken names job groups written placed answered;
  later = from_zero (by_stamp list);
}

-- ---- one summary more

-- what stands at the first of the places
record Stands (list : List Summary) (p : ℕ) (ps : List ℕ) (rest : List Summary) : Type 0 where
  first : Summary
  others : List Summary
  is : rest ≡ first ∷ others
  here : slice_get list p ≡ Some first
  left : ArePlaces list ps others

stands : (list : List Summary) (p : ℕ) (ps : List ℕ) (rest : List Summary) → ArePlaces list (p ∷ ps) rest → Stands list p ps rest
stands list p ps [] h = absurd h
stands list p ps (s ∷ others) h = record { first = s; others = others; is = refl; here = h.0; left = h.1 }

pub place_within : (names : List (Items ℕ)) (job : Declared) (list : List Summary) (p : ℕ) (ps places : List ℕ) (groups : Open) (written : Written)
    → IsUnderway names job list places groups written → places ≡ p ∷ ps → p < length list
place_within names job list p ps places groups written u is =
    let left : ArePlaces list (p ∷ ps) u.rest = subst (λ (l : List ℕ). ArePlaces list l u.rest) is u.left in
    let at = stands list p ps u.rest left in
    slice_get_within list p at.first at.here

-- the summary there is the first of the rest
record Begins (front rest whole : List Summary) (time : ℕ) (s : Summary) (others : List Summary) : Type 0 where
  is : front ++ s ∷ others ≡ whole
  reached : time ≤ s.at.time

begins : (list front rest : List Summary) (time p : ℕ) (ps : List ℕ) (s : Summary) → front ++ rest ≡ by_stamp list → AllByRecursion (λ t. time ≤ t.at.time) rest
    → slice_get list p ≡ Some s → (at : Stands list p ps rest) → Begins front rest (by_stamp list) time s at.others
begins list front rest time p ps s whole later here at =
    let same : at.first ≡ s = cc in
    let one : rest ≡ s ∷ at.others = at.is ∙ ap (λ (t : Summary). t ∷ at.others) same in
    let reached : AllByRecursion (λ t. time ≤ t.at.time) (s ∷ at.others) = subst (AllByRecursion (λ t. time ≤ t.at.time)) one later in
    record { is = ap (λ (l : List Summary). front ++ l) (sym one) ∙ whole; reached = reached.0 }

turn_more : (job : Declared) (front others l : List Summary) (s : Summary) → front ++ s ∷ others ≡ l → AreInTurn job l → AreInTurn job (front ++ s ∷ [])
turn_more job front others l s is h = turn_front job (front ++ s ∷ []) others l (append_assoc front (s ∷ []) others ∙ is) h

pub under_next : (names : List (Items ℕ)) (job : Declared) (list : List Summary) (p : ℕ) (ps places : List ℕ) (groups : Open) (written : Written) (s : Summary)
    → AreInTurn job (by_stamp list) → IsUnderway names job list places groups written → places ≡ p ∷ ps → slice_get list p ≡ Some s
    → IsNextOf names job groups written s
under_next names job list p ps places groups written s turn u is here =
    let left : ArePlaces list (p ∷ ps) u.rest = subst (λ (l : List ℕ). ArePlaces list l u.rest) is u.left in
    let at = stands list p ps u.rest left in
    let first = begins list u.front u.rest u.time p ps s u.whole u.later here at in
    record {
      front = u.front;
      before = u.time;
      reached = first.reached;
      taken = u.taken;
      in_turn = turn_more job u.front at.others (by_stamp list) s first.is turn;
    }

pub under_more : (names : List (Items ℕ)) (job : Declared) (list : List Summary) (p : ℕ) (ps places : List ℕ) (old new : Open) (before after : Written) (s : Summary)
    → AreInTurn job (by_stamp list) → IsUnderway names job list places old before → places ≡ p ∷ ps → slice_get list p ≡ Some s
    → ((front : List Summary) (time : ℕ) → time ≤ s.at.time → AreInTurn job (front ++ s ∷ []) → HasTaken names job old before front time
    → HasTaken names job new after (front ++ s ∷ []) s.at.time)
    → IsUnderway names job list ps new after
under_more names job list p ps places old new before after s turn u is here takes =
    let left : ArePlaces list (p ∷ ps) u.rest = subst (λ (l : List ℕ). ArePlaces list l u.rest) is u.left in
    let at = stands list p ps u.rest left in
    let first = begins list u.front u.rest u.time p ps s u.whole u.later here at in
    let ordered : InStampOrder (u.front ++ s ∷ at.others) = subst InStampOrder (sym first.is) turn.ordered in
    record {
      front = u.front ++ s ∷ [];
      rest = at.others;
      whole = append_assoc u.front (s ∷ []) at.others ∙ first.is;
      left = at.left;
      time = s.at.time;
      taken = takes u.front u.time first.reached (turn_more job u.front at.others (by_stamp list) s first.is turn) u.taken;
      later = not_before s at.others (order_behind u.front (s ∷ at.others) ordered).0;
    }

-- ---- the end

no_more : (list rest : List Summary) → ArePlaces list [] rest → rest ≡ []
no_more list [] h = refl
no_more list (s ∷ rest) h = absurd h

pub under_all : (names : List (Items ℕ)) (job : Declared) (list : List Summary) (places : List ℕ) (groups : Open) (written : Written)
    → IsUnderway names job list places groups written → places ≡ [] → HasLeft names job groups.held written (by_stamp list)
under_all names job list places groups written u none =
    let left : ArePlaces list [] u.rest = subst (λ (l : List ℕ). ArePlaces list l u.rest) none u.left in
    let whole : u.front ≡ by_stamp list = sym (append-nil u.front) ∙ ap (λ (l : List Summary). u.front ++ l) (sym (no_more list u.rest left)) ∙ u.whole in
    subst (HasLeft names job groups.held written) whole (taken_left names job groups written u.front u.time u.taken)
