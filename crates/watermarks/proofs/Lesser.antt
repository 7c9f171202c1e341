-- The least of marks: by lists, and where one of them changes.
use Rattle.std.proofs.Common.{ℕ, zero, suc, List, [], ◌∷◌, ◌++◌, ◌≡◌, ◌≢◌, ◌≤◌, ◌<◌, Option, Some, None, refl, sym, ap, subst, ◌∙◌, arith, ⊎_elim, length, get_or, min, max, take, true, false}
use Rattle.std.specs.Prelude.{set}
use Rattle.std.specs.List.{AllByRecursion}
use Rattle.std.proofs.lemmas.List.{set-get_or, get_or-take, length-take}
use Rattle.std.proofs.lemmas.List.Elements.{Contains-append_right}
use Rattle.std.specs.Option.{option_eq}
use Rattle.std.proofs.Math.Dec.{eqb}
use Rattle.std.proofs.Math.Seq.{take-set-lt}
use Rattle.std.proofs.lemmas.Bool.{cases_lt, eq-eqb, ltb-true, ltb-false, lt-ltb, le-ltb}
use Rattle.watermarks.specs.Least.{lesser, least_mark, HasEnded, IsFrom, IsLeast, under, Allows}
use Rattle.watermarks.specs.Raised.{raised_to}

-- ---- the lesser of two

pub lesser_none : (a : Option ℕ) → lesser a None ≡ a
lesser_none None = refl
lesser_none (Some a) = refl

pub lesser_comm : (a b : Option ℕ) → lesser a b ≡ lesser b a
lesser_comm None b = sym (lesser_none b)
lesser_comm (Some a) None = refl
lesser_comm (Some a) (Some b) = let e : min a b ≡ min b a = omega arith in ap Some e

pub lesser_assoc : (a b c : Option ℕ) → lesser (lesser a b) c ≡ lesser a (lesser b c)
lesser_assoc None b c = refl
lesser_assoc (Some a) None c = refl
lesser_assoc (Some a) (Some b) None = refl
lesser_assoc (Some a) (Some b) (Some c) = let e : min (min a b) c ≡ min a (min b c) = omega arith in ap Some e

-- one mark more
pub least-push : (ms : List (Option ℕ)) (m : Option ℕ) → least_mark (ms ++ m ∷ []) ≡ lesser (least_mark ms) m
least-push [] m = lesser_none m
least-push (x ∷ ms) m = ap (lesser x) (least-push ms m) ∙ sym (lesser_assoc x (least_mark ms) m)

-- ---- one mark of several

-- the least of the marks but that of one capture
others : List (Option ℕ) → ℕ → Option ℕ
others [] i = None
others (m ∷ ms) zero = least_mark ms
others (m ∷ ms) (suc i) = lesser m (others ms i)

turned : (a b c : Option ℕ) → lesser a (lesser b c) ≡ lesser b (lesser a c)
turned a b c = sym (lesser_assoc a b c) ∙ ap (λ (m : Option ℕ). lesser m c) (lesser_comm a b) ∙ lesser_assoc b a c

least-set : (ms : List (Option ℕ)) (i : ℕ) (m : Option ℕ) → i < length ms → least_mark (set ms i m) ≡ lesser m (others ms i)
unfolding others
least-set [] i m within = absurd (omega arith)
least-set (x ∷ ms) zero m within = refl
least-set (x ∷ ms) (suc i) m within = ap (lesser x) (least-set ms i m (omega arith)) ∙ turned x m (others ms i)

least_from : (ms : List (Option ℕ)) (i : ℕ) → i < length ms → least_mark ms ≡ lesser (get_or ms i None) (others ms i)
least_from ms i within = ap least_mark (sym (set-get_or ms i None)) ∙ least-set ms i (get_or ms i None) within

not_least : (old new rest : Option ℕ) → lesser old new ≡ old → old ≢ lesser old rest → lesser new rest ≡ lesser old rest
not_least None None rest later apart = refl
not_least None (Some n) rest later apart = absurd (cc)
not_least (Some m) new None later apart = absurd (apart refl)
not_least (Some m) None (Some k) later apart =
    let below : k < m = omega (arith, λ (e : m ≡ min m k). apart (ap Some e)) in
    let e : k ≡ min m k = omega arith in
    ap Some e
not_least (Some m) (Some n) (Some k) later apart =
    let up : min m n ≡ m = cc in
    let below : k < m = omega (arith, λ (e : m ≡ min m k). apart (ap Some e)) in
    let e : min n k ≡ min m k = omega arith in
    ap Some e

-- the least mark stays where a mark that is not the least rises
pub least_stays : (ms : List (Option ℕ)) (i : ℕ) (m : Option ℕ) → i < length ms → lesser (get_or ms i None) m ≡ get_or ms i None
    → get_or ms i None ≢ least_mark ms → least_mark (set ms i m) ≡ least_mark ms
least_stays ms i m within later apart =
    let here = least_from ms i within in
    least-set ms i m within
    ∙ not_least (get_or ms i None) m (others ms i) later (λ e. apart (e ∙ sym here))
    ∙ sym here

-- ---- the least mark is what the relation says

from_lower : (t u : ℕ) (ms : List (Option ℕ)) → t ≤ u → AllByRecursion (IsFrom u) ms → AllByRecursion (IsFrom t) ms
from_lower t u [] below h = tt
from_lower t u (None ∷ ms) below h = (tt, from_lower t u ms below h.1)
from_lower t u (Some m ∷ ms) below h = (omega (arith, h.0), from_lower t u ms below h.1)

from_ended : (t : ℕ) (ms : List (Option ℕ)) → AllByRecursion HasEnded ms → AllByRecursion (IsFrom t) ms
from_ended t [] h = tt
from_ended t (None ∷ ms) h = (tt, from_ended t ms h.1)
from_ended t (Some m ∷ ms) h = absurd h.0

is_least-cons : (m : Option ℕ) (ms : List (Option ℕ)) (least : Option ℕ) → IsLeast ms least → IsLeast (m ∷ ms) (lesser m least)
is_least-cons None ms None h = (tt, h)
is_least-cons None ms (Some t) h = (Contains-append_right (None ∷ []) ms (Some t) h.0, (tt, h.1))
is_least-cons (Some m) ms None h = let own : m ≤ m = omega arith in let within : 0 < length (Some m ∷ ms) = omega arith in ((0, within, refl), (own, from_ended m ms h))
is_least-cons (Some m) ms (Some t) h =
    ⊎_elim
    (λ (below : m < t).
    let e : m ≡ min m t = omega arith in
    let own : m ≤ m = omega arith in
    let within : 0 < length (Some m ∷ ms) = omega arith in
    let no_later : m ≤ t = omega arith in
    subst (λ (n : ℕ). IsLeast (Some m ∷ ms) (Some n)) e ((0, within, refl), (own, from_lower m t ms no_later h.1)))
    (λ (up : t ≤ m).
    let e : t ≡ min m t = omega arith in
    subst (λ (n : ℕ). IsLeast (Some m ∷ ms) (Some n)) e (Contains-append_right (Some m ∷ []) ms (Some t) h.0, (up, h.1)))
    (cases_lt m t)

pub is_least : (ms : List (Option ℕ)) → IsLeast ms (least_mark ms)
is_least [] = tt
is_least (m ∷ ms) = is_least-cons m ms (least_mark ms) (is_least ms)

-- ---- where one mark is replaced

same_marks : (a b : Option ℕ) → a ≡ b → option_eq eqb a b ≡ true
same_marks None None e = refl
same_marks None (Some b) e = absurd (cc)
same_marks (Some a) None e = absurd (cc)
same_marks (Some a) (Some b) e = let inner : a ≡ b = cc in eq-eqb a b inner

-- the least of the first marks is kept where one of them that is not the least rises
pub kept_least : (captures i : ℕ) (marks new : List (Option ℕ)) (before m least : Option ℕ) → new ≡ set marks i m → i < length (take captures marks)
    → before ≡ get_or marks i None → least ≡ least_mark (take captures marks)
    → lesser (get_or (take captures marks) i None) m ≡ get_or (take captures marks) i None
    → option_eq eqb before least ≡ false → least ≡ least_mark (take captures new)
kept_least captures i marks new before m least set_new within at value later test =
    let front = take captures marks in
    let long = length-take captures marks in
    let inside : i < captures = omega (arith, long) in
    let own : get_or front i None ≡ before = get_or-take captures marks i None inside ∙ sym at in
    let apart : get_or front i None ≢ least_mark front = λ e. absurd (let yes = same_marks before least (sym own ∙ e ∙ sym value) in cc) in
    value
    ∙ sym (least_stays front i m within later apart)
    ∙ ap least_mark (sym (take-set-lt captures marks i m inside))
    ∙ ap (λ (ms : List (Option ℕ)). least_mark (take captures ms)) (sym set_new)

-- the first marks, where one of them was replaced
pub replaced : (captures i : ℕ) (marks new seen : List (Option ℕ)) (m : Option ℕ) → new ≡ set marks i m → i < length seen
    → take captures marks ≡ seen → take captures new ≡ set seen i m
replaced captures i marks new seen m set_new within e =
    let long = length-take captures marks in
    let same : length (take captures marks) ≡ length seen = ap length e in
    let inside : i < captures = omega (arith, long, same) in
    ap (take captures) set_new ∙ take-set-lt captures marks i m inside ∙ ap (λ (ms : List (Option ℕ)). set ms i m) e

-- ---- times below the least mark

pub raised_later : (mark : ℕ) (m : Option ℕ) → lesser m (raised_to mark m) ≡ m
raised_later mark None = refl
raised_later mark (Some m) = let e : min m (max m mark) ≡ m = omega arith in ap Some e

no_sooner : (a b rest : Option ℕ) → lesser a b ≡ a → lesser (lesser a rest) (lesser b rest) ≡ lesser a rest
no_sooner None None rest later = lesser_self rest where
  lesser_self : (m : Option ℕ) → lesser m m ≡ m
  lesser_self None = refl
  lesser_self (Some m) = let e : min m m ≡ m = omega arith in ap Some e
no_sooner None (Some b) rest later = absurd (cc)
no_sooner (Some a) None None later = refl
no_sooner (Some a) None (Some c) later = let e : min (min a c) c ≡ min a c = omega arith in ap Some e
no_sooner (Some a) (Some b) None later = later
no_sooner (Some a) (Some b) (Some c) later =
    let up : min a b ≡ a = cc in
    let e : min (min a c) (min b c) ≡ min a c = omega arith in
    ap Some e

pub under_later : (a b : Option ℕ) (t : ℕ) → lesser a b ≡ a → under a t ≡ true → under b t ≡ true
under_later a None t later h = refl
under_later None (Some b) t later h = absurd (cc)
under_later (Some a) (Some b) t later h =
    let up : min a b ≡ a = cc in
    let below : t < a = ltb-true t a h in
    lt-ltb t b (omega arith)

-- what is below the least mark is below it where a mark rises
pub least_rises : (ms : List (Option ℕ)) (i : ℕ) (m : Option ℕ) → i < length ms → lesser (get_or ms i None) m ≡ get_or ms i None
    → (t : ℕ) → under (least_mark ms) t ≡ true → under (least_mark (set ms i m)) t ≡ true
least_rises ms i m within later t h =
    let old = least_from ms i within in
    let new = least-set ms i m within in
    under_later (least_mark ms) (least_mark (set ms i m)) t
    (ap (λ (x : Option ℕ). lesser x (least_mark (set ms i m))) old
    ∙ ap (λ (x : Option ℕ). lesser (lesser (get_or ms i None) (others ms i)) x) new
    ∙ no_sooner (get_or ms i None) m (others ms i) later
    ∙ sym old) h

under_lesser : (a b : Option ℕ) (t : ℕ) → under b t ≡ false → under (lesser a b) t ≡ false
under_lesser None b t h = h
under_lesser (Some a) None t h = absurd (cc)
under_lesser (Some a) (Some b) t h =
    let up : b ≤ t = ltb-false t b h in
    le-ltb t (min a b) (omega arith)

under_own : (k t : ℕ) (b : Option ℕ) → k ≤ t → under (lesser (Some k) b) t ≡ false
under_own k t None up = le-ltb t k up
under_own k t (Some b) up = le-ltb t (min k b) (omega arith)

-- a time that a capture's mark allows is not below the least mark
pub allowed_late : (ms : List (Option ℕ)) (i t : ℕ) → Allows (get_or ms i None) t → under (least_mark ms) t ≡ false
allowed_late [] i t h = absurd h
allowed_late (None ∷ ms) zero t h = absurd h
allowed_late (Some k ∷ ms) zero t h = under_own k t (least_mark ms) h
allowed_late (x ∷ ms) (suc i) t h = under_lesser x (least_mark ms) t (allowed_late ms i t h)

-- the times below a bound are those before others
pub under_earlier : (bound : Option ℕ) (t u : ℕ) → t ≤ u → under bound u ≡ true → under bound t ≡ true
under_earlier None t u up h = refl
under_earlier (Some m) t u up h =
    let below : u < m = ltb-true u m h in
    lt-ltb t m (omega arith)
