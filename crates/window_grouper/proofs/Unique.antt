-- One list of groups at most is the groups of a list.
use Rattle.std.proofs.Common.{ℕ, true, false, List, [], ◌∷◌, ◌≡◌, refl, sym, ap, subst, ◌∙◌, arith, ⊎_elim}
use Rattle.std.specs.List.{AllByRecursion}
use Rattle.std.proofs.lemmas.Bool.{cases_Bool, both_ways}
use Rattle.ds_base.specs.Copies.{Copies}
use Rattle.ds_base.specs.Order.{Precedes, PrecedesAll, InStampOrder}
use Rattle.ds_base.specs.declared.stamp.Stamp.{Stamp}
use Rattle.ds_base.specs.declared.summary.Summary.{Summary}
use Rattle.window_grouper.specs.Cut.{firsts, IsFilled}
use Rattle.window_grouper.specs.Groups.{same_key, with_key, members_of, groups_with, IsGroups, groups_of, OneGrouping}
use Rattle.window_grouper.proofs.Cuts.{cut_is_unique}
use Rattle.window_grouper.proofs.Covers.{same_key-true, same_key-from, groups_of-IsGroups}

not_both : (a b : Stamp) → Precedes a b → Precedes b a → ⊥
not_both a b h k = grind arith

filled_parts : (m : List Summary) → IsFilled m → (f : Summary) × (fs : List Summary) × (m ≡ f ∷ fs)
filled_parts [] h = absurd h
filled_parts (f ∷ fs) h = (f, fs, refl)

-- the members of the groups with a key, at a group with it and at one without
with_this : (key : List ℕ) (g : Copies) (gs : List Copies) → same_key g.key key ≡ true
    → members_of (groups_with key (g ∷ gs)) ≡ g.members ∷ members_of (groups_with key gs)
with_this key g gs own = rw own refl

without_this : (key : List ℕ) (g : Copies) (gs : List Copies) → same_key g.key key ≡ false
    → members_of (groups_with key (g ∷ gs)) ≡ members_of (groups_with key gs)
without_this key g gs other = rw other refl

abbrev pub AllFilled : List Copies → Type 0
AllFilled gs = AllByRecursion (λ g. IsFilled g.members) gs

all_filled : (gs : List Copies) → ((key : List ℕ) → AllByRecursion IsFilled (members_of (groups_with key gs))) → AllFilled gs
all_filled [] h = tt
all_filled (g ∷ gs) h =
    let own : AllByRecursion IsFilled (g.members ∷ members_of (groups_with g.key gs)) =
    subst (λ (ms : List (List Summary)). AllByRecursion IsFilled ms) (with_this g.key g gs (same_key-from g.key g.key refl)) (h g.key) in (
      own.0,
      all_filled gs (λ key. ⊎_elim
          (λ (own : same_key g.key key ≡ true).
          let all : AllByRecursion IsFilled (g.members ∷ members_of (groups_with key gs)) =
          subst (λ (ms : List (List Summary)). AllByRecursion IsFilled ms) (with_this key g gs own) (h key) in
          all.1)
          (λ (other : same_key g.key key ≡ false).
          subst (λ (ms : List (List Summary)). AllByRecursion IsFilled ms) (without_this key g gs other) (h key))
          (cases_Bool (same_key g.key key))),
    )

firsts_tail : (at : Stamp) (m : List Summary) (ms : List (List Summary)) → PrecedesAll at (firsts (m ∷ ms)) → PrecedesAll at (firsts ms)
firsts_tail at [] ms h = h
firsts_tail at (s ∷ ss) ms h = h.1

ordered_tail : (m : List Summary) (ms : List (List Summary)) → InStampOrder (firsts (m ∷ ms)) → InStampOrder (firsts ms)
ordered_tail [] ms h = h
ordered_tail (s ∷ ss) ms h = h.1

-- a stamp that precedes all firsts precedes that of the first group with a key
precedes_with : (at : Stamp) (key : List ℕ) (f : Summary) (fs : List Summary) (rest : List (List Summary)) (hs : List Copies)
    → PrecedesAll at (firsts (members_of hs)) → members_of (groups_with key hs) ≡ (f ∷ fs) ∷ rest → Precedes at f.at
precedes_with at key f fs rest [] h e = absurd (cc)
precedes_with at key f fs rest (k ∷ hs) h e =
    ⊎_elim
    (λ (own : same_key k.key key ≡ true).
    let there : k.members ∷ members_of (groups_with key hs) ≡ (f ∷ fs) ∷ rest = sym (with_this key k hs own) ∙ e in
    let same : k.members ≡ f ∷ fs = cc in
    let all : PrecedesAll at (f ∷ firsts (members_of hs)) =
    subst (λ (m : List Summary). PrecedesAll at (firsts (m ∷ members_of hs))) same h in
    all.0)
    (λ (other : same_key k.key key ≡ false).
    precedes_with at key f fs rest hs (firsts_tail at k.members (members_of hs) h) (sym (without_this key k hs other) ∙ e))
    (cases_Bool (same_key k.key key))

-- two lists of groups that agree at each key
record Alike (gs hs : List Copies) : Type 0 where
  same : (key : List ℕ) → members_of (groups_with key gs) ≡ members_of (groups_with key hs)
  filled : AllFilled gs
  filled_too : AllFilled hs
  ordered : InStampOrder (firsts (members_of gs))
  ordered_too : InStampOrder (firsts (members_of hs))

-- the first group of one list is before, or is, the first group of the other
head_first : (g h : Copies) (gs hs : List Copies) → IsFilled h.members → IsFilled g.members
    → InStampOrder (firsts (members_of (h ∷ hs)))
    → members_of (groups_with g.key (g ∷ gs)) ≡ members_of (groups_with g.key (h ∷ hs)) → same_key h.key g.key ≡ false
    → (f t : Summary) (fs ts : List Summary) → g.members ≡ f ∷ fs → h.members ≡ t ∷ ts → Precedes t.at f.at
head_first g h gs hs fh fg ordered e other f t fs ts eg eh =
    let there : members_of (groups_with g.key hs) ≡ (f ∷ fs) ∷ members_of (groups_with g.key gs) =
    sym (without_this g.key h hs other) ∙ sym e ∙ with_this g.key g gs (same_key-from g.key g.key refl)
    ∙ ap (λ (m : List Summary). m ∷ members_of (groups_with g.key gs)) eg in
    let all : InStampOrder (t ∷ firsts (members_of hs)) =
    subst (λ (m : List Summary). InStampOrder (firsts (m ∷ members_of hs))) eh ordered in
    precedes_with t.at g.key f fs (members_of (groups_with g.key gs)) hs all.0 there

same_copies : (g h : Copies) → g.key ≡ h.key → g.members ≡ h.members → g ≡ h
same_copies g h keys members =
    let built : List ℕ → List Summary → Copies = λ k m. record { key = k; members = m } in
    ap (λ (k : List ℕ). built k g.members) keys ∙ ap (λ (m : List Summary). built h.key m) members

same_rest : (g h : Copies) (gs hs : List Copies) → g ≡ h → (key : List ℕ)
    → members_of (groups_with key (g ∷ gs)) ≡ members_of (groups_with key (h ∷ hs))
    → members_of (groups_with key gs) ≡ members_of (groups_with key hs)
same_rest g h gs hs same key e =
    ⊎_elim
    (λ (own : same_key g.key key ≡ true).
    let own_too : same_key h.key key ≡ true = subst (λ (k : Copies). same_key k.key key ≡ true) same own in
    let tails : g.members ∷ members_of (groups_with key gs) ≡ h.members ∷ members_of (groups_with key hs) =
    sym (with_this key g gs own) ∙ e ∙ with_this key h hs own_too in
    cc)
    (λ (other : same_key g.key key ≡ false).
    let other_too : same_key h.key key ≡ false = subst (λ (k : Copies). same_key k.key key ≡ false) same other in
    sym (without_this key g gs other) ∙ e ∙ without_this key h hs other_too)
    (cases_Bool (same_key g.key key))

alike : (gs hs : List Copies) → Alike gs hs → hs ≡ gs
alike [] [] a = refl
alike [] (h ∷ hs) a =
    let e : [] ≡ h.members ∷ members_of (groups_with h.key hs) = a.same h.key ∙ with_this h.key h hs (same_key-from h.key h.key refl) in
    absurd (cc)
alike (g ∷ gs) [] a =
    let e : [] ≡ g.members ∷ members_of (groups_with g.key gs) = sym (a.same g.key) ∙ with_this g.key g gs (same_key-from g.key g.key refl) in
    absurd (cc)
alike (g ∷ gs) (h ∷ hs) a =
    ⊎_elim
    (λ (own : same_key h.key g.key ≡ true).
    let heads : g.members ∷ members_of (groups_with g.key gs) ≡ h.members ∷ members_of (groups_with g.key hs) =
    sym (with_this g.key g gs (same_key-from g.key g.key refl)) ∙ a.same g.key ∙ with_this g.key h hs own in
    let members : g.members ≡ h.members = cc in
    let same : g ≡ h = same_copies g h (sym (same_key-true h.key g.key own)) members in
    let rest : hs ≡ gs = alike gs hs (record {
      same = λ key. same_rest g h gs hs same key (a.same key);
      filled = a.filled.1;
      filled_too = a.filled_too.1;
      ordered = ordered_tail g.members (members_of gs) a.ordered;
      ordered_too = ordered_tail h.members (members_of hs) a.ordered_too;
    }) in
    cc)
    (λ (other : same_key h.key g.key ≡ false).
    let other_too : same_key g.key h.key ≡ false = ⊎_elim
    (λ (own : same_key g.key h.key ≡ true).
    absurd (both_ways (same_key h.key g.key) other (same_key-from h.key g.key (sym (same_key-true g.key h.key own)))))
    (λ (still : same_key g.key h.key ≡ false). still)
    (cases_Bool (same_key g.key h.key)) in
    let f = filled_parts g.members a.filled.0 in
    let t = filled_parts h.members a.filled_too.0 in
    absurd (not_both t.0.at f.0.at
    (head_first g h gs hs a.filled_too.0 a.filled.0 a.ordered_too (a.same g.key) other f.0 t.0 f.1 t.1 f.2 t.2)
    (head_first h g hs gs a.filled.0 a.filled_too.0 a.ordered (sym (a.same h.key)) other_too t.0 f.0 t.1 f.1 t.2 f.2)))
    (cases_Bool (same_key h.key g.key))

groups_are_unique : (window : ℕ) (l : List Summary) (gs hs : List Copies) → IsGroups window l gs → IsGroups window l hs → hs ≡ gs
groups_are_unique window l gs hs g h = alike gs hs (record {
  same = λ key. cut_is_unique window (with_key key l) (members_of (groups_with key hs)) (members_of (groups_with key gs)) (h.cuts key) (g.cuts key);
  filled = all_filled gs (λ key. (g.cuts key).filled);
  filled_too = all_filled hs (λ key. (h.cuts key).filled);
  ordered = g.ordered;
  ordered_too = h.ordered;
})

pub one_grouping : (window : ℕ) (l : List Summary) → OneGrouping window l
one_grouping window l ordered =
    let own = groups_of-IsGroups window l ordered in
    (own, λ hs h. groups_are_unique window l (groups_of window l) hs own h)
