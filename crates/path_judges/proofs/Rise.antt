use Rattle.std.proofs.Common.{◌≡◌, ◌≢◌, ℕ, zero, suc, ◌+◌, ◌<◌, ◌≤◌, max, Bool, true, false, ◌&&◌, List, [], ◌∷◌, ◌++◌, Option, Some, None, IsSome, length, get_or, set, take, drop, replicate, refl, sym, ap, ◌∙◌, arith, slice_get, cond, ◌⊎◌, inl, inr, ◌==◌, nat_lt}
use Rattle.std.specs.List.{find}
use Rattle.std.specs.Option.{option_map}
use Rattle.std.proofs.lemmas.Option.{none-some, same_Some}
use Rattle.std.proofs.lemmas.List.{get_or-set_other, get_or-set_same, get_or-replicate, length-set}
use Rattle.std.proofs.lemmas.Bool.Decides.{nat_tests}
use Rattle.std.proofs.lemmas.Bool.{cases_eq}
use Rattle.ds_base.proofs.Places.{drop_at, take_at}
use Rattle.ds_base.specs.declared.summary.Summary.{Summary}
use Rattle.ds_base.specs.declared.verdict.Verdict.{Verdict}
use Rattle.ds_base.specs.declared.verdict.Verdict.TheVariants.{Fine, Loop}
use Rattle.path_judges.specs.Members.{capture_of, value_of}
use Rattle.path_judges.specs.Loop.{is_above, loop_at, loop_after, loop_verdict}

pub drop-eq_nil : {X : Type 0} (xs : List X) (j : ℕ) → length xs ≤ j → drop j xs ≡ []
drop-eq_nil [] zero h = refl
drop-eq_nil [] (suc j) h = refl
drop-eq_nil (x ∷ xs) zero h = absurd (omega arith)
drop-eq_nil (x ∷ xs) (suc j) h = drop-eq_nil xs j (omega arith)

-- the greatest hop value of a capture, or 0
abbrev pub greatest_of : ℕ → ℕ → List Summary → ℕ
greatest_of hop capture [] = 0
greatest_of hop capture (member ∷ members) =
    cond (capture_of member == capture) (max (value_of hop member) (greatest_of hop capture members)) (greatest_of hop capture members)

max_front : (b c : Bool) (v w g : ℕ) → cond b (max v (cond c (max g w) g)) (cond c (max g w) g) ≡ cond c (max (cond b (max v g) g) w) (cond b (max v g) g)
max_front true true v w g = omega arith
max_front true false v w g = refl
max_front false true v w g = refl
max_front false false v w g = refl

max_zero : (b : Bool) (w : ℕ) → cond b (max w 0) 0 ≡ cond b (max 0 w) 0
max_zero true w = omega arith
max_zero false w = refl

pub greatest_of-push : (hop capture : ℕ) (members : List Summary) (member : Summary) →
    greatest_of hop capture (members ++ member ∷ [])
    ≡ cond (capture_of member == capture) (max (greatest_of hop capture members) (value_of hop member)) (greatest_of hop capture members)
greatest_of-push hop capture [] member = max_zero (capture_of member == capture) (value_of hop member)
greatest_of-push hop capture (front ∷ members) member =
    ap (λ g. cond (capture_of front == capture) (max (value_of hop front) g) g) (greatest_of-push hop capture members member)
    ∙ max_front (capture_of front == capture) (capture_of member == capture) (value_of hop front) (value_of hop member) (greatest_of hop capture members)

-- no member of the capture is above a value that none exceeds, and some is above a lesser one
below_all : (b : Bool) (v w g : ℕ) → cond b (max w g) g ≤ v → ((b && nat_lt v w) ≡ false) × (g ≤ v)
below_all true v w g h = (grind (arith, nat_tests), omega arith)
below_all false v w g h = (refl, h)

pub find_above-none : (hop : ℕ) (low : Summary) (members : List Summary) → greatest_of hop (capture_of low) members ≤ value_of hop low → find (is_above hop low) members ≡ None
find_above-none hop low [] h = refl
find_above-none hop low (member ∷ members) h =
    let both = below_all (capture_of member == capture_of low) (value_of hop low) (value_of hop member) (greatest_of hop (capture_of low) members) h in
    let fails : is_above hop low member ≡ false = both.0 in
    rw fails (find_above-none hop low members both.1)

above_one : (b : Bool) (v w g : ℕ) → v < cond b (max w g) g → ((b && nat_lt v w) ≡ false) → v < g
above_one true v w g h e = let le : w ≤ v = grind (arith, nat_tests) in omega arith
above_one false v w g h e = h

IsSome-cond : {X : Type 0} (b : Bool) (x : X) (rest : Option X) → (b ≡ false → IsSome rest) → IsSome (cond b (Some x) rest)
IsSome-cond true x rest h = refl
IsSome-cond false x rest h = h refl

pub find_above-some : (hop : ℕ) (low : Summary) (members : List Summary) → value_of hop low < greatest_of hop (capture_of low) members → IsSome (find (is_above hop low) members)
find_above-some hop low [] h = absurd (omega arith)
find_above-some hop low (member ∷ members) h =
    IsSome-cond (is_above hop low member) member (find (is_above hop low) members)
    (λ e. find_above-some hop low members
    (above_one (capture_of member == capture_of low) (value_of hop low) (value_of hop member) (greatest_of hop (capture_of low) members) h e))

-- what one pass keeps: the greatest value so far of each capture, and the verdict to come
pub record Scanned (hop : ℕ) (members : List Summary) (j : ℕ) (greatest : List ℕ) : Type 0 where
  pub width : length greatest ≡ 64
  pub tops : (capture : ℕ) → capture < 64 → get_or greatest capture 0 ≡ greatest_of hop capture (take j members)
  pub rest : loop_after hop (take j members) (drop j members) ≡ loop_verdict hop members

pub Scanned-start : (hop : ℕ) (members : List Summary) → Scanned hop members 0 (replicate 64 0)
Scanned-start hop members = record {
  width = refl;
  tops = λ capture lt. get_or-replicate 64 capture 0 0 lt;
  rest = refl;
}

tops-other : (hop capture : ℕ) (members : List Summary) (member : Summary) → capture_of member ≢ capture → greatest_of hop capture (members ++ member ∷ []) ≡ greatest_of hop capture members
tops-other hop capture members member ne =
    let e : (capture_of member == capture) ≡ false = grind (arith, nat_tests) in
    greatest_of-push hop capture members member ∙ (rw e)

tops-same : (hop : ℕ) (members : List Summary) (member : Summary) → greatest_of hop (capture_of member) members ≤ value_of hop member → greatest_of hop (capture_of member) (members ++ member ∷ []) ≡ value_of hop member
tops-same hop members member le =
    let e : (capture_of member == capture_of member) ≡ true = grind (arith, nat_tests) in
    greatest_of-push hop (capture_of member) members member ∙ (rw e (omega arith))

tops-next : (hop : ℕ) (members : List Summary) (j : ℕ) (member : Summary) (greatest : List ℕ) → (s : Scanned hop members j greatest) → slice_get members j ≡ Some member → capture_of member < 64
    → get_or greatest (capture_of member) 0 ≤ value_of hop member
    → (capture : ℕ) → capture < 64 → (capture ≡ capture_of member) ⊎ (capture ≢ capture_of member)
    → get_or (set greatest (capture_of member) (value_of hop member)) capture 0 ≡ greatest_of hop capture (take (j + 1) members)
tops-next hop members j member greatest s at within le capture lt (inl same) =
    let top = s.tops (capture_of member) within in
    let wide : capture_of member < length greatest = omega (arith, s.width) in
    ap (λ c. get_or (set greatest (capture_of member) (value_of hop member)) c 0) same
    ∙ get_or-set_same greatest (capture_of member) (value_of hop member) 0 wide
    ∙ sym (tops-same hop (take j members) member (omega arith))
    ∙ ap (λ c. greatest_of hop c (take j members ++ member ∷ [])) (sym same)
    ∙ ap (greatest_of hop capture) (sym (take_at members j member at))
tops-next hop members j member greatest s at within le capture lt (inr other) =
    get_or-set_other greatest (capture_of member) capture (value_of hop member) 0 other
    ∙ s.tops capture lt
    ∙ sym (tops-other hop capture (take j members) member (λ e. other (sym e)))
    ∙ ap (greatest_of hop capture) (sym (take_at members j member at))

-- the verdict to come, at a member that no earlier one is above
rest-next : (hop : ℕ) (members : List Summary) (j : ℕ) (member : Summary) → slice_get members j ≡ Some member → find (is_above hop member) (take j members) ≡ None
    → loop_after hop (take j members) (drop j members) ≡ loop_after hop (take (j + 1) members) (drop (j + 1) members)
rest-next hop members j member at none =
    ap (loop_after hop (take j members)) (drop_at members j member at)
    ∙ ap (λ f. loop_at hop member f (loop_after hop (take j members ++ member ∷ []) (drop (j + 1) members))) none
    ∙ ap (λ seen. loop_after hop seen (drop (j + 1) members)) (sym (take_at members j member at))

pub Scanned-next : (hop : ℕ) (members : List Summary) (j : ℕ) (member : Summary) (greatest : List ℕ) → Scanned hop members j greatest → slice_get members j ≡ Some member → capture_of member < 64
    → get_or greatest (capture_of member) 0 ≤ value_of hop member
    → Scanned hop members (j + 1) (set greatest (capture_of member) (value_of hop member))
Scanned-next hop members j member greatest s at within le = record {
  width = length-set greatest (capture_of member) (value_of hop member) ∙ s.width;
  tops = λ capture lt. tops-next hop members j member greatest s at within le capture lt (cases_eq capture (capture_of member));
  rest = sym (rest-next hop members j member at (find_above-none hop member (take j members) (let top = s.tops (capture_of member) within in omega arith))) ∙ s.rest;
}

-- an earlier member is above this one
pub Scanned-some : (hop : ℕ) (members : List Summary) (j : ℕ) (member : Summary) (greatest : List ℕ) → Scanned hop members j greatest → capture_of member < 64
    → value_of hop member < get_or greatest (capture_of member) 0
    → IsSome (find (is_above hop member) (take j members))
Scanned-some hop members j member greatest s within lt =
    find_above-some hop member (take j members) (let top = s.tops (capture_of member) within in omega arith)

loop_at-some : (hop : ℕ) (low : Summary) (found : Option Summary) (later : Verdict) (high : ℕ) → option_map (value_of hop) found ≡ Some high → loop_at hop low found later ≡ Loop (capture_of low) high (value_of hop low)
loop_at-some hop low None later high e = absurd (none-some high e)
loop_at-some hop low (Some member) later high e = ap (λ h. Loop (capture_of low) h (value_of hop low)) (same_Some (value_of hop member) high e)

pub Scanned-loop : (hop : ℕ) (members : List Summary) (j : ℕ) (member : Summary) (greatest : List ℕ) (high : ℕ) → Scanned hop members j greatest → slice_get members j ≡ Some member
    → option_map (value_of hop) (find (is_above hop member) (take j members)) ≡ Some high
    → Loop (capture_of member) high (value_of hop member) ≡ loop_verdict hop members
Scanned-loop hop members j member greatest high s at e =
    sym (loop_at-some hop member (find (is_above hop member) (take j members)) (loop_after hop (take j members ++ member ∷ []) (drop (j + 1) members)) high e)
    ∙ ap (loop_after hop (take j members)) (sym (drop_at members j member at))
    ∙ s.rest

pub Scanned-end : (hop : ℕ) (members : List Summary) (j : ℕ) (greatest : List ℕ) → Scanned hop members j greatest → length members ≤ j → Fine ≡ loop_verdict hop members
Scanned-end hop members j greatest s le = ap (loop_after hop (take j members)) (sym (drop-eq_nil members j le)) ∙ s.rest
