-- Groups in the order of their firsts.
use Rattle.std.proofs.Common.{ℕ, Bool, true, false, List, [], ◌∷◌, ◌≡◌, ◌≤◌, ◌+◌, inl, inr, refl, sym, ap, subst, ◌∙◌, ⊎_elim, arith, length}
use Rattle.std.specs.Prelude.{filter, map}
use Rattle.std.specs.List.{AllByRecursion}
use Rattle.std.proofs.lemmas.Bool.{cases_Bool}
use Rattle.ds_base.specs.Copies.{Copies}
use Rattle.ds_base.specs.Fronts.{IsIn, onward, PrecedesEach, InOrder}
use Rattle.ds_base.specs.Order.{Precedes, PrecedesAll, InStampOrder}
use Rattle.ds_base.specs.declared.stamp.Stamp.{Stamp}
use Rattle.ds_base.specs.declared.summary.Summary.{Summary}
use Rattle.ds_base.proofs.Fronts.{precedes_in}
use Rattle.window_grouper.specs.Closed.{IsBound, is_closed}
use Rattle.window_grouper.specs.Cut.{firsts}
use Rattle.window_grouper.specs.Groups.{groups_of, members_of, IsGroup}
use Rattle.window_grouper.proofs.Covers.{groups_of-IsGroups}
use Rattle.window_grouper.proofs.Later.{fails_later}
use Rattle.window_grouper.proofs.Members.{all_grouped}
use Rattle.run_law.specs.Nodes.{first_member, began}

-- ---- any items with stamps

module _ {X : Type 0} (at : X → Stamp) where
  each_filter : (test : X → Bool) (s : Stamp) (xs : List X) → PrecedesEach at s xs → PrecedesEach at s (filter test xs)
  each_filter test s [] h = tt
  each_filter test s (x ∷ xs) h =
      ⊎_elim
      (λ (t : test x ≡ true). rw t (h.0, each_filter test s xs h.1))
      (λ (f : test x ≡ false). rw f (each_filter test s xs h.1))
      (cases_Bool (test x))

  pub order_of_filter : (test : X → Bool) (xs : List X) → InOrder at xs → InOrder at (filter test xs)
  order_of_filter test [] h = tt
  order_of_filter test (x ∷ xs) h =
      ⊎_elim
      (λ (t : test x ≡ true). rw t (each_filter test (at x) xs h.0, order_of_filter test xs h.1))
      (λ (f : test x ≡ false). rw f (order_of_filter test xs h.1))
      (cases_Bool (test x))

  pub time_after : (s : Stamp) (z : X) (xs : List X) → PrecedesEach at s xs → IsIn z xs → s.time ≤ (at z).time
  time_after s z xs h there = let before : Precedes s (at z) = precedes_in at (λ x. true) s z xs h there in no_later s (at z) before
    where
      no_later : (a b : Stamp) → Precedes a b → a.time ≤ b.time
      no_later a b h = grind arith

each_map : {X Y : Type 0} (f : X → Y) (at : Y → Stamp) (s : Stamp) (xs : List X) → PrecedesEach (λ x. at (f x)) s xs → PrecedesEach at s (map f xs)
each_map f at s [] h = tt
each_map f at s (x ∷ xs) h = (h.0, each_map f at s xs h.1)

pub order_of_map : {X Y : Type 0} (f : X → Y) (at : Y → Stamp) (xs : List X) → InOrder (λ x. at (f x)) xs → InOrder at (map f xs)
order_of_map f at [] h = tt
order_of_map f at (x ∷ xs) h = (each_map f at (at (f x)) xs h.0, order_of_map f at xs h.1)

-- ---- groups

-- the stamp of a group's first member
abbrev pub lead : Copies → Stamp
lead x = (first_member x.members).at

each_lead : (window : ℕ) (s : Stamp) (gs : List Copies) → AllByRecursion (IsGroup window) gs → PrecedesAll s (firsts (members_of gs)) → PrecedesEach lead s gs
each_lead window s [] h k = tt
each_lead window s (g ∷ gs) h k = by_members (each_lead window s gs h.1) g.members refl
  where
    by_members : (PrecedesAll s (firsts (members_of gs)) → PrecedesEach lead s gs) → (ms : List Summary) → g.members ≡ ms → PrecedesEach lead s (g ∷ gs)
    by_members rest [] e = absurd (let none : length g.members ≡ 0 = ap length e in omega (arith, h.0.filled, none))
    by_members rest (m ∷ ms) e =
        let parts : Precedes s m.at × PrecedesAll s (firsts (members_of gs)) = rw e at k in
        (subst (λ (ns : List Summary). Precedes s (first_member ns).at) (sym e) parts.0, rest parts.1)

ordered_leads : (window : ℕ) (gs : List Copies) → AllByRecursion (IsGroup window) gs → InStampOrder (firsts (members_of gs)) → InOrder lead gs
ordered_leads window [] h k = tt
ordered_leads window (g ∷ gs) h k = by_members (ordered_leads window gs h.1) g.members refl
  where
    by_members : (InStampOrder (firsts (members_of gs)) → InOrder lead gs) → (ms : List Summary) → g.members ≡ ms → InOrder lead (g ∷ gs)
    by_members rest [] e = absurd (let none : length g.members ≡ 0 = ap length e in omega (arith, h.0.filled, none))
    by_members rest (m ∷ ms) e =
        let parts : PrecedesAll m.at (firsts (members_of gs)) × InStampOrder (firsts (members_of gs)) = rw e at k in (
          subst (λ (ns : List Summary). PrecedesEach lead (first_member ns).at gs) (sym e) (each_lead window m.at gs h.1 parts.0),
          rest parts.1,
        )

-- the groups of a list in stamp order stand in the order of their firsts
pub groups_ordered : (window : ℕ) (l : List Summary) → InStampOrder l → InOrder lead (groups_of window l)
groups_ordered window l h = ordered_leads window (groups_of window l) (all_grouped window l h).0 (groups_of-IsGroups window l h).ordered

-- a group with a member is closed where its first's time plus the window passes
closed_by_first : (p : ℕ → Bool) (window : ℕ) (x : Copies) → IsGroup window x → is_closed p window x ≡ p (began x + window)
closed_by_first p window x h = by_members x.members refl
  where
    by_members : (ms : List Summary) → x.members ≡ ms → is_closed p window x ≡ p (began x + window)
    by_members [] e = absurd (let none : length x.members ≡ 0 = ap length e in omega (arith, h.filled, none))
    by_members (m ∷ ms) e = rw e refl

-- the groups that are not closed begin late
pub not_closed : (p : ℕ → Bool) (window : ℕ) (gs : List Copies) → IsBound p → AllByRecursion (IsGroup window) gs → InOrder lead gs
    → (x : Copies) → IsIn x (onward (is_closed p window) gs) → p (began x + window) ≡ false
not_closed p window [] bound h order x there = absurd there
not_closed p window (g ∷ gs) bound h order x there =
    ⊎_elim
    (λ (t : is_closed p window g ≡ true).
    let later : IsIn x (onward (is_closed p window) gs) = rw t at there in
    not_closed p window gs bound h.1 order.1 x later)
    (λ (f : is_closed p window g ≡ false).
    let here : IsIn x (g ∷ gs) = rw f at there in
    let own : p (began g + window) ≡ false = sym (closed_by_first p window g h.0) ∙ f in
    by_place own here)
    (cases_Bool (is_closed p window g))
  where
    by_place : p (began g + window) ≡ false → IsIn x (g ∷ gs) → p (began x + window) ≡ false
    by_place own (inl e) = subst (λ (y : Copies). p (began y + window) ≡ false) (sym e) own
    by_place own (inr l) =
        let up : began g ≤ began x = time_after lead (lead g) x gs order.0 l in
        let further : began g + window ≤ began x + window = omega arith in
        fails_later p (began g + window) (began x + window) bound further own
