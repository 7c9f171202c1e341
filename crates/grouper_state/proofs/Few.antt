-- The summaries that come over lawful links are few.
use Rattle.std.proofs.Common.{ℕ, zero, suc, Bool, true, false, not, List, [], ◌∷◌, ◌++◌, ◌≡◌, ◌<◌, ◌≤◌, ◌+◌, ◌*◌, ◌%◌, ◌^◌, inl, inr, refl, sym, ap, subst, ◌∙◌, ⊎_elim, arith, length, length-append}
use Rattle.std.specs.Prelude.{filter, flat_map, ◌==◌}
use Rattle.std.specs.List.{AllByRecursion, range_with_len}
use Rattle.std.proofs.lemmas.Bool.{cases_Bool, both_ways, eq-eqb, eqb-true}
use Rattle.std.proofs.lemmas.List.Sorted.{IsPermutation-filter_both, length_permutation}
use Rattle.ds_base.specs.Fronts.{IsIn}
use Rattle.ds_base.specs.declared.summary.Summary.{Summary}
use Rattle.node_frames.specs.declared.frame.Frame.{Frame}
use Rattle.node_frames.specs.declared.frame.Frame.TheVariants.{Item}
use Rattle.summary_spec.specs.Declaration.{Declared}
use Rattle.run_law.specs.Links.{Permits, AreLawfulBehind, ItemRule, AreLawfulItems}
use Rattle.run_law.specs.Nodes.{below}
use Rattle.run_law.specs.Sent.{item_in, items_in}
use Rattle.run_law.specs.Shapes.{Shape}
use Rattle.run_law.proofs.Lists.{all_in, in_all, in_right, in_either, of_filter, of_flat, of_below}
use Rattle.run_law.proofs.Sharded.{item_of}
use Rattle.run_law.proofs.Standing.{item_frame, permitted_in}
use Rattle.grouper_state.specs.Puts.{came_in}

-- of one capture the first has the lesser number
abbrev IsEarlier : Summary → Summary → Type 0
IsEarlier s t = s.at.capture ≡ t.at.capture → s.at.number < t.at.number

-- the numbers of each capture rise
abbrev AreNumbered : List Summary → Type 0
AreNumbered [] = Unit {0}
AreNumbered (s ∷ ss) = AllByRecursion (IsEarlier s) ss × AreNumbered ss

numbered_joined : (xs ys : List Summary) → AreNumbered xs → AreNumbered ys → ((x y : Summary) → IsIn x xs → IsIn y ys → IsEarlier x y) → AreNumbered (xs ++ ys)
numbered_joined [] ys h k across = k
numbered_joined (x ∷ xs) ys h k across = (
  in_all (IsEarlier x) (xs ++ ys) (λ s there. ⊎_elim
      (λ (l : IsIn s xs). all_in (IsEarlier x) s xs h.0 l)
      (λ (r : IsIn s ys). across x s (inl refl) r)
      (in_either s xs ys there)),
  numbered_joined xs ys h.1 k (λ a b l r. across a b (inr l) r),
)

-- on one link
link_numbered : (Own : List Frame → Frame → Type 0) (before frames : List Frame) → AreLawfulBehind Own before frames → AreNumbered (items_in frames)
link_numbered Own before [] h = tt
link_numbered Own before (f ∷ fs) h =
    numbered_joined (item_in f) (items_in fs) (one f) (link_numbered Own (before ++ f ∷ []) fs h.1) (across f refl)
  where
    one : (f : Frame) → AreNumbered (item_in f)
    one (Item s) = (tt, tt)
    one f = tt

    across : (g : Frame) → g ≡ f → (x y : Summary) → IsIn x (item_in g) → IsIn y (items_in fs) → IsEarlier x y
    across (Item s) e x y (inl same) there =
        let permitted = permitted_in Own (before ++ f ∷ []) fs (Item y) h.1 (item_frame y fs there) in
        let own : Permits (Item s) (Item y) =
        all_in (λ earlier. Permits earlier (Item y)) (Item s) (before ++ f ∷ []) permitted (in_right (Item s) before (f ∷ []) (inl e)) in
        subst (λ (z : Summary). IsEarlier z y) (sym same) own
    across (Item s) e x y (inr l) there = absurd l
    across g e x y h there = absurd h

-- over all links
module _ (job : Declared) (shape : Shape) (g : ℕ) (taken : ℕ → List Frame) (lawful : (p : ℕ) → p < shape.parsers → AreLawfulItems job shape p g (taken p)) where
  abbrev came_on : ℕ → List Summary
  came_on p = items_in (taken p)

  range_low : (a n k : ℕ) → IsIn k (range_with_len a n) → a ≤ k
  range_low a zero k h = absurd h
  range_low a (suc n) k (inl e) = omega (arith, e)
  range_low a (suc n) k (inr l) = let r = range_low (a + 1) n k l in omega (arith, r)

  all_numbered : (a n : ℕ) → ((p : ℕ) → IsIn p (range_with_len a n) → p < shape.parsers) → AreNumbered (flat_map came_on (range_with_len a n))
  all_numbered a zero within = tt
  all_numbered a (suc n) within =
      let here : a < shape.parsers = within a (inl refl) in
      numbered_joined (came_on a) (flat_map came_on (range_with_len (a + 1) n))
      (link_numbered (ItemRule job shape a g) [] (taken a) (lawful a here))
      (all_numbered (a + 1) n (λ p l. within p (inr l)))
      (λ x y l r.
      let from = of_flat came_on y (range_with_len (a + 1) n) r in
      let other : from.item < shape.parsers = within from.item (inr from.there) in
      let mine : x.at.capture % shape.parsers ≡ a = (item_of job shape a g (taken a) x (lawful a here) l).capture.1 in
      let its : y.at.capture % shape.parsers ≡ from.item = (item_of job shape from.item g (taken from.item) y (lawful from.item other) from.is).capture.1 in
      let up : a + 1 ≤ from.item = range_low (a + 1) n from.item from.there in
      (λ e. let moved : x.at.capture % shape.parsers ≡ y.at.capture % shape.parsers = ap (λ (c : ℕ). c % shape.parsers) e in
      absurd (omega (arith, mine, its, up, moved))))

-- ---- how many there can be

filtered : (P : Summary → Type 0) (p : Summary → Bool) (xs : List Summary) → AllByRecursion P xs → AllByRecursion P (filter p xs)
filtered P p xs h = in_all P (filter p xs) (λ z l. all_in P z xs h (of_filter p z xs l).0)

numbered_filter : (p : Summary → Bool) (xs : List Summary) → AreNumbered xs → AreNumbered (filter p xs)
numbered_filter p [] h = tt
numbered_filter p (s ∷ ss) h =
    ⊎_elim
    (λ (t : p s ≡ true). rw t (filtered (IsEarlier s) p ss h.0, numbered_filter p ss h.1))
    (λ (f : p s ≡ false). rw f (numbered_filter p ss h.1))
    (cases_Bool (p s))

-- of one capture, from a number on and below another
of_one : (c most m : ℕ) (xs : List Summary) → m ≤ most → AreNumbered xs → ((s : Summary) → IsIn s xs → (s.at.capture ≡ c) × (s.at.number < most) × (m ≤ s.at.number))
    → length xs + m ≤ most
of_one c most m [] within h each = omega (arith, within)
of_one c most m (s ∷ ss) within h each =
    let own = each s (inl refl) in
    let less = own.1 in
    let low = own.2 in
    let rest : length ss + (s.at.number + 1) ≤ most =
    of_one c most (s.at.number + 1) ss (omega (arith, less)) h.1
    (λ t there.
    let its = each t (inr there) in
    let up : s.at.number < t.at.number = all_in (IsEarlier s) t ss h.0 there (own.0 ∙ sym its.0) in
    (its.0, its.1, omega (arith, up))) in
    omega (arith, rest, low)

of_many : (n most : ℕ) (xs : List Summary) → AreNumbered xs → ((s : Summary) → IsIn s xs → (s.at.capture < n) × (s.at.number < most)) → length xs ≤ n * most
of_many zero most [] h each = omega arith
of_many zero most (s ∷ ss) h each = absurd (let less = (each s (inl refl)).0 in omega (arith, less))
of_many (suc n) most xs h each =
    let own : length (filter mine xs) + 0 ≤ most = of_one n most 0 (filter mine xs) (omega arith) (numbered_filter mine xs h)
    (λ s there. let from = of_filter mine s xs there in (eqb-true s.at.capture n from.1, (each s from.0).1, omega arith)) in
    let rest : length (filter others xs) ≤ n * most = of_many n most (filter others xs) (numbered_filter others xs h)
    (λ s there.
    let from = of_filter others s xs there in
    let its = each s from.0 in
    (below_n s.at.capture its.0 (negated (mine s) from.1), its.1)) in
    let split = length_permutation xs (filter mine xs ++ filter others xs) (IsPermutation-filter_both mine others (λ x. refl) xs) in
    sums (length xs) (length (filter mine xs)) (length (filter others xs)) n most (sym split ∙ length-append (filter mine xs) (filter others xs)) (omega (arith, own)) rest
  where
    mine : Summary → Bool
    mine s = s.at.capture == n

    others : Summary → Bool
    others s = not (s.at.capture == n)

    negated : (b : Bool) → not b ≡ true → b ≡ false
    negated true h = absurd (cc)
    negated false h = refl

    below_n : (c : ℕ) → c < suc n → (c == n) ≡ false → c < n
    below_n c less other =
        let apart : c ≡ n → ⊥ = λ e. absurd (both_ways (c == n) other (eq-eqb c n e)) in
        grind arith

    sums : (all a b n most : ℕ) → all ≡ a + b → a ≤ most → b ≤ n * most → all ≤ suc n * most
    sums all a b n most e p q = grind (arith)

-- of at most 64 captures, with numbers below 2^40
pub few_came : (job : Declared) (shape : Shape) (g : ℕ) (taken : ℕ → List Frame) → ((p : ℕ) → p < shape.parsers → AreLawfulItems job shape p g (taken p))
    → length job.captures ≤ 64 → length (came_in shape taken) ≤ 2 ^ 46
few_came job shape g taken lawful few =
    most_of (length job.captures) (length (came_in shape taken)) few
    (of_many (length job.captures) (2 ^ 40) (came_in shape taken) (all_numbered job shape g taken lawful 0 shape.parsers (λ p l. of_below shape.parsers p l))
    (λ s there.
    let from = of_flat (λ p. items_in (taken p)) s (below shape.parsers) there in
    let within = of_below shape.parsers from.item from.there in
    let own = (item_of job shape from.item g (taken from.item) s (lawful from.item within) from.is).stamp in
    (own.capture, own.number)))
  where
    most_of : (n all : ℕ) → n ≤ 64 → all ≤ n * 2 ^ 40 → all ≤ 2 ^ 46
    most_of n all few h = omega (arith, few, h)
