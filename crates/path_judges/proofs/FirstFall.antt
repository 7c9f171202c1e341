use Rattle.std.proofs.Common.{◌≡◌, ℕ, ◌<◌, ◌≤◌, Bool, true, false, ◌&&◌, List, [], ◌∷◌, ◌++◌, Option, Some, None, length, refl, sym, ap, ◌∙◌, subst, arith, slice_get, ◌⊎◌, inl, inr, ◌==◌, nat_lt, append_assoc}
use Rattle.std.specs.List.{find}
use Rattle.std.proofs.lemmas.List.{append-nil, length-append}
use Rattle.std.proofs.lemmas.Option.{none-some, same_Some, slice_get_within}
use Rattle.std.proofs.lemmas.Bool.{false≢true, cases_lt}
use Rattle.std.proofs.lemmas.Bool.Decides.{nat_tests}
use Rattle.ds_base.proofs.Places.{at_left, at_seam}
use Rattle.ds_base.specs.declared.summary.Summary.{Summary}
use Rattle.ds_base.specs.declared.verdict.Verdict.{Verdict}
use Rattle.ds_base.specs.declared.verdict.Verdict.TheVariants.{Fine, Loop}
use Rattle.path_judges.specs.Members.{capture_of, value_of}
use Rattle.path_judges.specs.Loop.{Falls, IsFirstFall, NeverFalls, IsLoopVerdict, is_above, loop_at, loop_after, loop_verdict}
use Rattle.path_judges.proofs.Found.{find-none, find-found, FoundAt}

-- the test of a member above another, in words
above-true : (b : Bool) (v w : ℕ) → (b && nat_lt v w) ≡ true → (b ≡ true) × (v < w)
above-true true v w h = (refl, grind (arith, nat_tests))
above-true false v w h = absurd (false≢true h)

is_above-true : (hop : ℕ) (low member : Summary) → is_above hop low member ≡ true → (capture_of member ≡ capture_of low) × (value_of hop low < value_of hop member)
is_above-true hop low member h =
    let both = above-true (capture_of member == capture_of low) (value_of hop low) (value_of hop member) h in
    let same : (capture_of member == capture_of low) ≡ true = both.0 in
    (grind (arith, nat_tests), both.1)

is_above-of : (hop : ℕ) (low member : Summary) → capture_of member ≡ capture_of low → value_of hop low < value_of hop member → is_above hop low member ≡ true
is_above-of hop low member same lt =
    let e : (capture_of member == capture_of low) ≡ true = grind (arith, nat_tests) in
    rw e (grind (arith, nat_tests))

-- a fall among the first members is one among them alone
Falls-left : (hop : ℕ) (seen rest : List Summary) (i j : ℕ) (high low : Summary) → Falls hop (seen ++ rest) i j high low → j < length seen → Falls hop seen i j high low
Falls-left hop seen rest i j high low f lt = record {
  below = f.below;
  member_i = sym (at_left seen rest i (omega (arith, f.below))) ∙ f.member_i;
  member_j = sym (at_left seen rest j lt) ∙ f.member_j;
  one_capture = f.one_capture;
  exceeds = f.exceeds;
}

-- a fall to the next member is one from a member that is above it
Falls-seam : (hop : ℕ) (seen rest : List Summary) (member : Summary) (i : ℕ) (high low : Summary) → Falls hop (seen ++ member ∷ rest) i (length seen) high low
    → (slice_get seen i ≡ Some high) × (low ≡ member) × (is_above hop member high ≡ true)
Falls-seam hop seen rest member i high low f =
    let here : low ≡ member = same_Some low member (sym f.member_j ∙ at_seam seen rest member) in
    let one : capture_of high ≡ capture_of member = f.one_capture ∙ ap capture_of here in
    let less : value_of hop member < value_of hop high = let P : Summary → Type 0 = λ m. value_of hop m < value_of hop high in subst P here f.exceeds in
    (sym (at_left seen (member ∷ rest) i f.below) ∙ f.member_i, here, is_above-of hop member high one less)

NeverFalls-next : (hop : ℕ) (seen : List Summary) (member : Summary) → NeverFalls hop seen → find (is_above hop member) seen ≡ None → NeverFalls hop (seen ++ member ∷ [])
NeverFalls-next hop seen member never none i j high low f =
    let within = slice_get_within (seen ++ member ∷ []) j low f.member_j in
    let c : (j < length seen) ⊎ (length seen ≤ j) = cases_lt j (length seen) in
    elim c [
      | inl lt ↦ never i j high low (Falls-left hop seen (member ∷ []) i j high low f lt)
      | inr le ↦
          let last : j ≡ length seen = omega (arith, length-append seen (member ∷ [])) in
          let P : ℕ → Type 0 = λ n. Falls hop (seen ++ member ∷ []) i n high low in
          let s = Falls-seam hop seen [] member i high low (subst P last f) in
          false≢true (sym (find-none (is_above hop member) seen i high none s.0) ∙ s.2)
    ]

IsFirstFall-here : (hop : ℕ) (seen rest : List Summary) (member high : Summary) → NeverFalls hop seen → FoundAt (is_above hop member) seen high
    → IsFirstFall hop (seen ++ member ∷ rest) (capture_of member) (value_of hop high) (value_of hop member)
IsFirstFall-here hop seen rest member high never found =
    let within = slice_get_within seen found.place high found.at_place in
    let above = is_above-true hop member high found.passes in
    record {
      i = found.place;
      j = length seen;
      at_i = high;
      at_j = member;
      falls = record {
        below = within;
        member_i = at_left seen (member ∷ rest) found.place within ∙ found.at_place;
        member_j = at_seam seen rest member;
        one_capture = above.0;
        exceeds = above.1;
      };
      least_j = λ k l a b f.
          let c : (l < length seen) ⊎ (length seen ≤ l) = cases_lt l (length seen) in
          elim c [ inl lt ↦ absurd (never k l a b (Falls-left hop seen (member ∷ rest) k l a b f lt)) | inr le ↦ le ];
      least_i = λ k a b f.
          let s = Falls-seam hop seen rest member k a b f in
          let c : (k < found.place) ⊎ (found.place ≤ k) = cases_lt k found.place in
          elim c [ inl lt ↦ absurd (false≢true (sym (found.none_before k a lt s.0) ∙ s.2)) | inr le ↦ le ];
      capture_is = refl;
      high_is = refl;
      low_is = refl;
    }

-- the verdict on the members after those that were seen, among which none falls
loop_at-is : (hop : ℕ) (seen rest : List Summary) (member : Summary) (found : Option Summary) (later : Verdict) → NeverFalls hop seen
    → find (is_above hop member) seen ≡ found
    → (find (is_above hop member) seen ≡ None → IsLoopVerdict hop (seen ++ member ∷ rest) later)
    → IsLoopVerdict hop (seen ++ member ∷ rest) (loop_at hop member found later)
loop_at-is hop seen rest member None later never e next = next e
loop_at-is hop seen rest member (Some high) later never e next = IsFirstFall-here hop seen rest member high never (find-found (is_above hop member) seen high e)

loop_after-is : (hop : ℕ) (seen rest : List Summary) → NeverFalls hop seen → IsLoopVerdict hop (seen ++ rest) (loop_after hop seen rest)
loop_after-is hop seen [] never = rw append-nil never
loop_after-is hop seen (member ∷ rest) never =
    loop_at-is hop seen rest member (find (is_above hop member) seen) (loop_after hop (seen ++ member ∷ []) rest) never refl
    (λ none.
    let P : List Summary → Type 0 = λ ms. IsLoopVerdict hop ms (loop_after hop (seen ++ member ∷ []) rest) in
    subst P (append_assoc seen (member ∷ []) rest) (loop_after-is hop (seen ++ member ∷ []) rest (NeverFalls-next hop seen member never none)))

pub loop_verdict-is : (hop : ℕ) (members : List Summary) → IsLoopVerdict hop members (loop_verdict hop members)
loop_verdict-is hop members = loop_after-is hop [] members (λ i j high low f. absurd (none-some high f.member_i))

-- exactly one verdict meets the definition
same_fall : (hop : ℕ) (members : List Summary) (capture high low capture' high' low' : ℕ) → IsFirstFall hop members capture high low → IsFirstFall hop members capture' high' low' → Loop capture high low ≡ Loop capture' high' low'
same_fall hop members capture high low capture' high' low' f g =
    let j-is : f.j ≡ g.j = omega (arith, f.least_j g.i g.j g.at_i g.at_j g.falls, g.least_j f.i f.j f.at_i f.at_j f.falls) in
    let P : ℕ → Type 0 = λ j. Falls hop members f.i j f.at_i f.at_j in
    let Q : ℕ → Type 0 = λ j. Falls hop members g.i j g.at_i g.at_j in
    let i-is : f.i ≡ g.i = omega (arith, f.least_i g.i g.at_i g.at_j (subst Q (sym j-is) g.falls), g.least_i f.i f.at_i f.at_j (subst P j-is f.falls)) in
    let low-is : f.at_j ≡ g.at_j = same_Some f.at_j g.at_j (sym f.falls.member_j ∙ ap (slice_get members) j-is ∙ g.falls.member_j) in
    let high-is : f.at_i ≡ g.at_i = same_Some f.at_i g.at_i (sym f.falls.member_i ∙ ap (slice_get members) i-is ∙ g.falls.member_i) in
    let c : capture ≡ capture' = f.capture_is ∙ ap capture_of low-is ∙ sym g.capture_is in
    let h : high ≡ high' = f.high_is ∙ ap (value_of hop) high-is ∙ sym g.high_is in
    let l : low ≡ low' = f.low_is ∙ ap (value_of hop) low-is ∙ sym g.low_is in
    cc

same_verdict : (hop : ℕ) (members : List Summary) (v w : Verdict) → IsLoopVerdict hop members v → IsLoopVerdict hop members w → v ≡ w
same_verdict hop members Fine Fine a b = refl
same_verdict hop members Fine (Loop capture high low) a b = absurd (a b.i b.j b.at_i b.at_j b.falls)
same_verdict hop members (Loop capture high low) Fine a b = absurd (b a.i a.j a.at_i a.at_j a.falls)
same_verdict hop members (Loop capture high low) (Loop capture' high' low') a b = same_fall hop members capture high low capture' high' low' a b
same_verdict hop members Fine _ a b = elim b [ ]
same_verdict hop members (Loop capture high low) _ a b = elim b [ ]
same_verdict hop members _ w a b = elim a [ ]

pub loop_only : (hop : ℕ) (members : List Summary) (other : Verdict) → IsLoopVerdict hop members other → other ≡ loop_verdict hop members
loop_only hop members other h = same_verdict hop members other (loop_verdict hop members) h (loop_verdict-is hop members)
