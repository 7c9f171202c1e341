-- What marks and ends leave open.
use Rattle.std.proofs.Common.{ℕ, false, List, [], ◌∷◌, ◌≡◌, ◌<◌, ◌≤◌, Option, Some, None, inl, inr, refl, sym, ap, ◌∙◌, arith, map}
use Rattle.std.proofs.lemmas.Bool.Decides.{nat_tests}
use Rattle.ds_base.specs.Fronts.{IsIn}
use Rattle.node_frames.specs.declared.frame.Frame.{Frame}
use Rattle.watermarks.specs.Least.{lesser, least_mark, under}
use Rattle.run_law.specs.Nodes.{below}
use Rattle.run_law.specs.Sent.{Saying, MayCome, IsLeftOpen, bound_after, bound_behind, bound_in}
use Rattle.run_law.proofs.Lists.{in_map, in_below}

-- ---- one link

open_after : (bound : Option ℕ) (saying : Saying) (t : ℕ) → under bound t ≡ false → MayCome saying t → under (bound_after bound saying) t ≡ false
open_after None saying t h may = h
open_after (Some m) None t h may = h
open_after (Some m) (Some None) t h may = absurd may
open_after (Some m) (Some (Some v)) t h may = grind (arith, nat_tests)

open_behind : (says : Frame → Saying) (bound : Option ℕ) (frames : List Frame) (t : ℕ) → under bound t ≡ false → IsLeftOpen says frames t
    → under (bound_behind says bound frames) t ≡ false
open_behind says bound [] t h may = h
open_behind says bound (f ∷ fs) t h may = open_behind says (bound_after bound (says f)) fs t (open_after bound (says f) t h may.0) may.1

-- a time that all frames leave open is not below the link's bound
pub not_under : (says : Frame → Saying) (frames : List Frame) (t : ℕ) → IsLeftOpen says frames t → under (bound_in says frames) t ≡ false
not_under says frames t may = open_behind says (Some 0) frames t (grind (arith, nat_tests)) may

-- ---- several links

under_lesser : (a b : Option ℕ) (t : ℕ) → under a t ≡ false → under (lesser a b) t ≡ false
under_lesser None b t h = absurd (cc)
under_lesser (Some m) None t h = h
under_lesser (Some m) (Some n) t h = grind (arith, nat_tests)

under_other : (a b : Option ℕ) (t : ℕ) → under b t ≡ false → under (lesser a b) t ≡ false
under_other None b t h = h
under_other (Some m) None t h = absurd (cc)
under_other (Some m) (Some n) t h = grind (arith, nat_tests)

-- what is not below one mark is not below the least
pub under_least : (ms : List (Option ℕ)) (m : Option ℕ) (t : ℕ) → IsIn m ms → under m t ≡ false → under (least_mark ms) t ≡ false
under_least [] m t there h = absurd there
under_least (x ∷ xs) m t (inl e) h = under_lesser x (least_mark xs) t (ap (λ (b : Option ℕ). under b t) (sym e) ∙ h)
under_least (x ∷ xs) m t (inr l) h = under_other x (least_mark xs) t (under_least xs m t l h)

pub under_below : (n k : ℕ) (f : ℕ → Option ℕ) (t : ℕ) → k < n → under (f k) t ≡ false → under (least_mark (map f (below n))) t ≡ false
under_below n k f t less h = under_least (map f (below n)) (f k) t (in_map f k (below n) (in_below n k less)) h

-- ---- no mark

lesser_none : (a b : Option ℕ) → lesser a b ≡ None → (a ≡ None) × (b ≡ None)
lesser_none None b h = (refl, h)
lesser_none (Some m) None h = absurd (cc)
lesser_none (Some m) (Some n) h = absurd (cc)

each_none : (ms : List (Option ℕ)) (m : Option ℕ) → IsIn m ms → least_mark ms ≡ None → m ≡ None
each_none [] m there h = absurd there
each_none (x ∷ xs) m (inl e) h = e ∙ (lesser_none x (least_mark xs) h).0
each_none (x ∷ xs) m (inr l) h = each_none xs m l (lesser_none x (least_mark xs) h).1

pub none_below : (n k : ℕ) (f : ℕ → Option ℕ) → k < n → least_mark (map f (below n)) ≡ None → f k ≡ None
none_below n k f less h = each_none (map f (below n)) (f k) (in_map f k (below n) (in_below n k less)) h

-- ---- marks

-- a bound that a time is not below is a mark, and no more than the time
pub record IsMark (bound : Option ℕ) (t : ℕ) : Type 0 where
  pub mark : ℕ
  pub is : bound ≡ Some mark
  pub low : mark ≤ t

pub mark_from : (bound : Option ℕ) (t : ℕ) → under bound t ≡ false → IsMark bound t
mark_from None t h = absurd (cc)
mark_from (Some m) t h = record { mark = m; is = refl; low = grind (arith, nat_tests) }
