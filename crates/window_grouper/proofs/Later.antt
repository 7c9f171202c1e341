-- The closed groups of a list stay as they are, whatever comes later.
use Rattle.std.proofs.Common.{ℕ, Bool, true, false, List, [], ◌∷◌, ◌++◌, ◌≡◌, ◌≤◌, ◌+◌, refl, ap, ◌∙◌, arith, ⊎_elim}
use Rattle.std.specs.Prelude.{filter}
use Rattle.std.proofs.lemmas.Bool.{cases_Bool, both_ways}
use Rattle.std.proofs.lemmas.List.{append-nil}
use Rattle.std.proofs.lemmas.List.Elements.{filter-append}
use Rattle.ds_base.specs.Copies.{Copies}
use Rattle.ds_base.specs.Fronts.{upto}
use Rattle.ds_base.specs.declared.summary.Summary.{Summary}
use Rattle.window_grouper.specs.Closed.{IsBound, is_closed, AreLate, ClosedStay}
use Rattle.window_grouper.specs.Groups.{covers, is_covered, groups_behind}
use Rattle.window_grouper.proofs.Covers.{covers-true, filter-none}

-- what is no earlier than a time that fails fails
pub fails_later : (p : ℕ → Bool) (t u : ℕ) → IsBound p → t ≤ u → p t ≡ false → p u ≡ false
fails_later p t u bound up h =
    ⊎_elim
    (λ (yes : p u ≡ true). absurd (both_ways (p t) h (bound t u up yes)))
    (λ (no : p u ≡ false). no)
    (cases_Bool (p u))

none_closed : (p : ℕ → Bool) (window : ℕ) (fs later : List Summary) → IsBound p → AreLate p later
    → upto (is_closed p window) (groups_behind window fs later) ≡ []
none_closed p window fs [] bound h = refl
none_closed p window fs (s ∷ later) bound h =
    ⊎_elim
    (λ (covered : is_covered window fs s ≡ true). rw covered (none_closed p window fs later bound h.1))
    (λ (free : is_covered window fs s ≡ false).
    let past : p (s.at.time + window) ≡ false = fails_later p s.at.time (s.at.time + window) bound (omega arith) h.0 in
    rw (free, past) refl)
    (cases_Bool (is_covered window fs s))

-- a closed group takes nothing that comes later
takes_none : (p : ℕ → Bool) (window : ℕ) (f : Summary) (later : List Summary) → IsBound p → AreLate p later → p (f.at.time + window) ≡ true
    → filter (covers window f) later ≡ []
takes_none p window f later bound h closed =
    filter-none (covers window f) (λ s. p s.at.time ≡ false)
    (λ s late. ⊎_elim
    (λ (yes : covers window f s ≡ true).
    absurd (both_ways (p s.at.time) late (bound s.at.time (f.at.time + window) (covers-true window f s yes).near closed)))
    (λ (no : covers window f s ≡ false). no)
    (cases_Bool (covers window f s)))
    later h

closed-append : (p : ℕ → Bool) (window : ℕ) (fs l later : List Summary) → IsBound p → AreLate p later
    → upto (is_closed p window) (groups_behind window fs (l ++ later)) ≡ upto (is_closed p window) (groups_behind window fs l)
closed-append p window fs [] later bound h = none_closed p window fs later bound h
closed-append p window fs (s ∷ l) later bound h =
    ⊎_elim
    (λ (covered : is_covered window fs s ≡ true). rw covered (closed-append p window fs l later bound h))
    (λ (free : is_covered window fs s ≡ false).
    ⊎_elim
    (λ (closed : p (s.at.time + window) ≡ true).
    let same : filter (covers window s) (l ++ later) ≡ filter (covers window s) l =
    filter-append (covers window s) l later
    ∙ ap (λ (more : List Summary). filter (covers window s) l ++ more) (takes_none p window s later bound h closed)
    ∙ append-nil (filter (covers window s) l) in
    let rest : List Copies = upto (is_closed p window) (groups_behind window (s ∷ fs) (l ++ later)) in
    rw (free, closed)
    (ap (λ (ms : List Summary). record { key = s.key; members = s ∷ ms } ∷ rest) same
    ∙ ap (λ (gs : List Copies). record { key = s.key; members = s ∷ filter (covers window s) l } ∷ gs) (closed-append p window (s ∷ fs) l later bound h)))
    (λ (past : p (s.at.time + window) ≡ false). rw (free, past) refl)
    (cases_Bool (p (s.at.time + window))))
    (cases_Bool (is_covered window fs s))

pub closed_stay : (p : ℕ → Bool) (window : ℕ) (l later : List Summary) → ClosedStay p window l later
closed_stay p window l later bound h = closed-append p window [] l later bound h
