-- Frames that were put behind others, none of them an end of the link.
use Rattle.std.proofs.Common.{ℕ, ◌≡◌, ◌≤◌, ◌+◌, ◌∷◌, ◌++◌, [], Bool, true, false, List, Option, Some, None, length, refl, sym, ap, ◌∙◌, arith, append_assoc, append-nil, length-append}
use Rattle.std.specs.Prelude.{◌||◌}
use Rattle.credit_link.specs.Frames.{has_finish, is_finish}
use Rattle.ds_base.specs.declared.summary.Summary.{Summary}
use Rattle.node_frames.specs.declared.frame.Frame.{Frame}
use Rattle.run_law.specs.Shapes.{IsFront, is_of_shard}
use Rattle.parser_captures.specs.Puts.{frames_by, frames_for}

-- at most so many frames
pub record Extra (most : ℕ) (before after : List Frame) : Type 0 where
  pub extra : List Frame
  pub joined : after ≡ before ++ extra
  pub few : length extra ≤ most
  pub goes_on : has_finish extra ≡ false

pub by_none : (xs ys : List Frame) → ys ≡ xs → Extra 0 xs ys
by_none xs ys e = record { extra = []; joined = e ∙ sym (append-nil xs); few = omega arith; goes_on = refl }

pub by_one : (f : Frame) (xs ys : List Frame) → is_finish f ≡ false → ys ≡ xs ++ f ∷ [] → Extra 1 xs ys
by_one f xs ys other e = record { extra = f ∷ []; joined = e; few = omega arith; goes_on = ap (λ (b : Bool). b || false) other }

pub more : (m n : ℕ) (xs ys : List Frame) → m ≤ n → Extra m xs ys → Extra n xs ys
more m n xs ys le h = record { extra = h.extra; joined = h.joined; few = omega (arith, h.few, le); goes_on = h.goes_on }

by_first : (b front all : Bool) → (b || front) ≡ false → (front ≡ false → all ≡ false) → (b || all) ≡ false
by_first true front all h k = h
by_first false front all h k = k h

none_in_both : (xs ys : List Frame) → has_finish xs ≡ false → has_finish ys ≡ false → has_finish (xs ++ ys) ≡ false
none_in_both [] ys h k = k
none_in_both (x ∷ xs) ys h k = by_first (is_finish x) (has_finish xs) (has_finish (xs ++ ys)) h (λ none. none_in_both xs ys none k)

pub both : (m n : ℕ) (xs ys zs : List Frame) → Extra m xs ys → Extra n ys zs → Extra (m + n) xs zs
both m n xs ys zs h k = record {
  extra = h.extra ++ k.extra;
  joined = k.joined ∙ ap (λ (fs : List Frame). fs ++ k.extra) h.joined ∙ append_assoc xs h.extra k.extra;
  few = omega (arith, h.few, k.few, length-append h.extra k.extra);
  goes_on = none_in_both h.extra k.extra h.goes_on k.goes_on;
}

pub is_front : (most : ℕ) (xs ys : List Frame) → Extra most xs ys → IsFront xs ys
is_front most xs ys h = record { rest = h.extra; joined = h.joined }

pub stays_open : (most : ℕ) (xs ys : List Frame) → Extra most xs ys → has_finish xs ≡ false → has_finish ys ≡ false
stays_open most xs ys h open' = ap has_finish h.joined ∙ none_in_both xs h.extra open' h.goes_on

pub longer : (most : ℕ) (xs ys : List Frame) → Extra most xs ys → length ys ≤ length xs + most
longer most xs ys h = omega (arith, ap length h.joined, length-append xs h.extra, h.few)

-- ---- the Item of what was found

item_by : (b : Bool) (s : Summary) (xs : List Frame) → Extra 1 xs (xs ++ frames_by b s)
item_by true s xs = record { extra = frames_by true s; joined = refl; few = omega arith; goes_on = refl }
item_by false s xs = record { extra = []; joined = refl; few = omega arith; goes_on = refl }

item_for : (n k : ℕ) (found : Option Summary) (xs : List Frame) → Extra 1 xs (xs ++ frames_for n k found)
item_for n k None xs = record { extra = []; joined = refl; few = omega arith; goes_on = refl }
item_for n k (Some s) xs = item_by (is_of_shard k n s.key) s xs

pub by_found : (n k : ℕ) (found : Option Summary) (xs ys : List Frame) → ys ≡ xs ++ frames_for n k found → Extra 1 xs ys
by_found n k found xs ys e = let h = item_for n k found xs in record { extra = h.extra; joined = e ∙ h.joined; few = h.few; goes_on = h.goes_on }
