-- Exactly one list of groups is the cut of a list.
use Rattle.std.proofs.Common.{ℕ, List, [], ◌∷◌, ◌++◌, ◌≡◌, ◌≤◌, ◌<◌, ◌+◌, refl, ap, subst, arith, ⊎_elim}
use Rattle.std.specs.List.{AllByRecursion, flat_map}
use Rattle.std.proofs.lemmas.Bool.{cases_lt}
use Rattle.ds_base.specs.declared.summary.Summary.{Summary}
use Rattle.window_grouper.specs.Cut.{firsts, IsFilled, IsWithin, RiseFrom, AreApart, IsCut, OneCut}

-- the groups joined
abbrev pub joint : List (List Summary) → List Summary
joint gs = flat_map (λ g. g) gs

-- no time is above the limit
abbrev pub AllUpTo : ℕ → List Summary → Type 0
AllUpTo limit ss = AllByRecursion (λ m. m.at.time ≤ limit) ss

-- the first time, if there is one, is above the limit
abbrev pub BeginsAbove : ℕ → List Summary → Type 0
BeginsAbove limit [] = Unit {0}
BeginsAbove limit (s ∷ ss) = limit < s.at.time

above_and_below : (limit : ℕ) (s t : Summary) → s ≡ t → limit < s.at.time → t.at.time ≤ limit → ⊥
above_and_below limit s t e above below =
    let here : limit < t.at.time = subst (λ (u : Summary). limit < u.at.time) e above in omega arith

-- a group ends where the times leave its window
same_split : (limit : ℕ) (xs ys us vs : List Summary) → AllUpTo limit xs → AllUpTo limit ys
    → BeginsAbove limit us → BeginsAbove limit vs → xs ++ us ≡ ys ++ vs → (xs ≡ ys) × (us ≡ vs)
same_split limit [] [] us vs hx hy ha hb e = (refl, e)
same_split limit [] (y ∷ ys) [] vs hx hy ha hb e = absurd (cc)
same_split limit [] (y ∷ ys) (u ∷ us) vs hx hy ha hb e =
    let same : u ≡ y = cc in absurd (above_and_below limit u y same ha hy.0)
same_split limit (x ∷ xs) [] us [] hx hy ha hb e = absurd (cc)
same_split limit (x ∷ xs) [] us (v ∷ vs) hx hy ha hb e =
    let same : v ≡ x = cc in absurd (above_and_below limit v x same hb hx.0)
same_split limit (x ∷ xs) (y ∷ ys) us vs hx hy ha hb e =
    let heads : x ≡ y = cc in
    let tails : xs ++ us ≡ ys ++ vs = cc in
    let rest = same_split limit xs ys us vs hx.1 hy.1 ha hb tails in
    (cc, rest.1)

begins_above : (window t : ℕ) (gs : List (List Summary)) → AllByRecursion IsFilled gs → RiseFrom window t (firsts gs)
    → BeginsAbove (t + window) (joint gs)
begins_above window t [] filled apart = tt
begins_above window t ([] ∷ gs) filled apart = absurd filled.0
begins_above window t ((s ∷ ss) ∷ gs) filled apart = apart.0

pub apart_tail : (window t : ℕ) (ss : List Summary) → RiseFrom window t ss → AreApart window ss
apart_tail window t [] h = tt
apart_tail window t (s ∷ ss) h = h.1

tail_cut : (window : ℕ) (l : List Summary) (s : Summary) (ss : List Summary) (gs : List (List Summary))
    → IsCut window l ((s ∷ ss) ∷ gs) → IsCut window (joint gs) gs
tail_cut window l s ss gs h = record {
  filled = h.filled.1;
  joined = refl;
  within = h.within.1;
  apart = apart_tail window s.at.time (firsts gs) h.apart;
}

same_cut : (window : ℕ) (l k : List Summary) (gs hs : List (List Summary)) → IsCut window l gs → IsCut window k hs
    → joint gs ≡ joint hs → hs ≡ gs
same_cut window l k [] [] g h e = refl
same_cut window l k [] ([] ∷ hs) g h e = absurd h.filled.0
same_cut window l k [] ((t ∷ ts) ∷ hs) g h e = absurd (cc)
same_cut window l k ([] ∷ gs) hs g h e = absurd g.filled.0
same_cut window l k ((s ∷ ss) ∷ gs) [] g h e = absurd (cc)
same_cut window l k ((s ∷ ss) ∷ gs) ([] ∷ hs) g h e = absurd h.filled.0
same_cut window l k ((s ∷ ss) ∷ gs) ((t ∷ ts) ∷ hs) g h e =
    let heads : t ≡ s = cc in
    let tails : ss ++ joint gs ≡ ts ++ joint hs = cc in
    let here : AllUpTo (s.at.time + window) ts = subst (λ (u : Summary). AllUpTo (u.at.time + window) ts) heads h.within.0.1 in
    let behind : RiseFrom window s.at.time (firsts hs) = subst (λ (u : Summary). RiseFrom window u.at.time (firsts hs)) heads h.apart in
    let split = same_split (s.at.time + window) ss ts (joint gs) (joint hs) g.within.0.1 here
    (begins_above window s.at.time gs g.filled.1 g.apart)
    (begins_above window s.at.time hs h.filled.1 behind) tails in
    let rest : hs ≡ gs = same_cut window (joint gs) (joint hs) gs hs (tail_cut window l s ss gs g) (tail_cut window k t ts hs h) split.1 in
    let members : ss ≡ ts = split.0 in
    cc

-- no other list of groups is the cut
pub cut_is_unique : (window : ℕ) (l : List Summary) (gs hs : List (List Summary)) → IsCut window l gs → IsCut window l hs
    → hs ≡ gs
cut_is_unique window l gs hs g h =
    let one : joint gs ≡ l = g.joined in
    let other : joint hs ≡ l = h.joined in
    same_cut window l l gs hs g h (cc)

-- what a list adds to a group that began at time t, and the groups behind it
record Continued (window t : ℕ) (l g : List Summary) (gs : List (List Summary)) : Type 0 where
  joined : g ++ joint gs ≡ l
  near : AllUpTo (t + window) g
  filled : AllByRecursion IsFilled gs
  within : AllByRecursion (IsWithin window) gs
  apart : RiseFrom window t (firsts gs)

continued : (window t : ℕ) (l : List Summary) → (g : List Summary) × (gs : List (List Summary)) × Continued window t l g gs
continued window t [] = ([], [], record { joined = refl; near = tt; filled = tt; within = tt; apart = tt })
continued window t (s ∷ l) =
    ⊎_elim
    (λ (above : t + window < s.at.time).
    let r = continued window s.at.time l in
    let own : s.at.time ≤ s.at.time + window = omega arith in (
      [],
      (s ∷ r.0) ∷ r.1,
      record {
        joined = ap (λ (k : List Summary). s ∷ k) r.2.joined;
        near = tt;
        filled = (tt, r.2.filled);
        within = ((own, r.2.near), r.2.within);
        apart = (above, r.2.apart);
      },
    ))
    (λ (below : s.at.time ≤ t + window).
    let r = continued window t l in (
      s ∷ r.0,
      r.1,
      record {
        joined = ap (λ (k : List Summary). s ∷ k) r.2.joined;
        near = (below, r.2.near);
        filled = r.2.filled;
        within = r.2.within;
        apart = r.2.apart;
      },
    ))
    (cases_lt (t + window) s.at.time)

cut_exists : (window : ℕ) (l : List Summary) → (gs : List (List Summary)) × IsCut window l gs
cut_exists window [] = ([], record { filled = tt; joined = refl; within = tt; apart = tt })
cut_exists window (s ∷ l) =
    let r = continued window s.at.time l in
    let own : s.at.time ≤ s.at.time + window = omega arith in (
      (s ∷ r.0) ∷ r.1,
      record {
        filled = (tt, r.2.filled);
        joined = ap (λ (k : List Summary). s ∷ k) r.2.joined;
        within = ((own, r.2.near), r.2.within);
        apart = r.2.apart;
      },
    )

pub one_cut : (window : ℕ) (l : List Summary) → OneCut window l
one_cut window l = let c = cut_exists window l in (c.0, c.1, λ hs h. cut_is_unique window l c.0 hs c.1 h)
