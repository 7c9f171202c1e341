use Rattle.std.proofs.Common.{◌≡◌, ℕ, zero, suc, ◌≤◌, Bool, true, false, ◌&&◌, ◌||◌, List, [], ◌∷◌, ◌++◌, length, take, refl, sym, ap, ◌∙◌, subst, arith, cond, ◌⊎◌, inl, inr, ◌==◌}
use Rattle.std.proofs.lemmas.Bool.{false≢true}
use Rattle.std.proofs.lemmas.Bool.Decides.{nat_tests}
use Rattle.path_judges.specs.declared.pattern.Step.{Step}
use Rattle.path_judges.specs.declared.pattern.Step.TheVariants.{Point, One, Many}
use Rattle.path_judges.specs.Pattern.{Matches, Begins, matches, begun, some_end}

-- the test and the relation
and-true : (a b : Bool) → (a && b) ≡ true → (a ≡ true) × (b ≡ true)
and-true true b h = (refl, h)
and-true false b h = absurd (false≢true h)

or-right : (a : Bool) → (a || true) ≡ true
or-right true = refl
or-right false = refl

or-cases : (a b : Bool) → (a || b) ≡ true → (a ≡ true) ⊎ (b ≡ true)
or-cases true b h = inl refl
or-cases false b h = inr h

same_capture : (a b : ℕ) → (a == b) ≡ true → a ≡ b
same_capture a b h = grind (arith, nat_tests)

same_test : (a b : ℕ) → a ≡ b → (a == b) ≡ true
same_test a b h = grind (arith, nat_tests)

-- an end of the list that passes the test, after any number of captures
some_end-split : (test : List ℕ → Bool) (captures : List ℕ) → some_end test captures ≡ true → (many rest : List ℕ) × (captures ≡ many ++ rest) × (test rest ≡ true)
some_end-split test [] h = ([], [], refl, h)
some_end-split test (capture ∷ captures) h =
    let c : (test (capture ∷ captures) ≡ true) ⊎ (some_end test captures ≡ true) = or-cases (test (capture ∷ captures)) (some_end test captures) h in
    elim c [
      | inl here ↦ ([], capture ∷ captures, refl, here)
      | inr later ↦ let s = some_end-split test captures later in (capture ∷ s.0, s.1, ap (λ cs. capture ∷ cs) s.2, s.3)
    ]

some_end-here : (test : List ℕ → Bool) (rest : List ℕ) → test rest ≡ true → some_end test rest ≡ true
some_end-here test [] h = h
some_end-here test (capture ∷ rest) h = ap (λ b. b || some_end test rest) h

some_end-joined : (test : List ℕ → Bool) (many rest : List ℕ) → test rest ≡ true → some_end test (many ++ rest) ≡ true
some_end-joined test [] rest h = some_end-here test rest h
some_end-joined test (capture ∷ many) rest h = ap (λ b. test (capture ∷ (many ++ rest)) || b) (some_end-joined test many rest h) ∙ or-right (test (capture ∷ (many ++ rest)))

pub Matches-from_test : (steps : List Step) (captures : List ℕ) → matches steps captures ≡ true → Matches steps captures
Matches-from_test [] [] h = refl
Matches-from_test [] (capture ∷ rest) h = absurd (false≢true h)
Matches-from_test (Point point ∷ steps) [] h = absurd (false≢true h)
Matches-from_test (Point point ∷ steps) (capture ∷ rest) h =
    let both = and-true (capture == point) (matches steps rest) h in
    (rest, ap (λ c. c ∷ rest) (same_capture capture point both.0), Matches-from_test steps rest both.1)
Matches-from_test (One ∷ steps) [] h = absurd (false≢true h)
Matches-from_test (One ∷ steps) (capture ∷ rest) h = (capture, rest, refl, Matches-from_test steps rest h)
Matches-from_test (Many ∷ steps) captures h =
    let s = some_end-split (matches steps) captures h in
    (s.0, s.1, s.2, Matches-from_test steps s.1 s.3)

pub test-from_Matches : (steps : List Step) (captures : List ℕ) → Matches steps captures → matches steps captures ≡ true
test-from_Matches [] captures m = ap (matches []) m
test-from_Matches (Point point ∷ steps) captures m =
    ap (matches (Point point ∷ steps)) m.1
    ∙ ap (λ b. b && matches steps m.0) (same_test point point refl)
    ∙ test-from_Matches steps m.0 m.2
test-from_Matches (One ∷ steps) captures m = ap (matches (One ∷ steps)) m.2 ∙ test-from_Matches steps m.1 m.3
test-from_Matches (Many ∷ steps) captures m =
    ap (matches (Many ∷ steps)) m.2 ∙ some_end-joined (matches steps) m.0 m.1 (test-from_Matches steps m.1 m.3)

-- any steps match some list
pub completed : (steps : List Step) → (rest : List ℕ) × Matches steps rest
completed [] = ([], refl)
completed (Point point ∷ steps) = let c = completed steps in (point ∷ c.0, (c.0, refl, c.1))
completed (One ∷ steps) = let c = completed steps in (0 ∷ c.0, (0, c.0, refl, c.1))
completed (Many ∷ steps) = let c = completed steps in (c.0, ([], c.0, refl, c.1))

cond-suc_le : (b : Bool) (n m : ℕ) → n ≤ m → cond b (suc n) 0 ≤ suc m
cond-suc_le true n m h = omega arith
cond-suc_le false n m h = omega arith

pub begun-le : (steps : List Step) (captures : List ℕ) → begun steps captures ≤ length captures
begun-le [] captures = omega arith
begun-le (Point point ∷ steps) [] = omega arith
begun-le (Point point ∷ steps) (capture ∷ rest) = cond-suc_le (capture == point) (begun steps rest) (length rest) (begun-le steps rest)
begun-le (One ∷ steps) [] = omega arith
begun-le (One ∷ steps) (capture ∷ rest) = let le = begun-le steps rest in omega arith
begun-le (Many ∷ steps) captures = omega arith

-- up to the count, the captures begin a list that matches
cond-suc : (b : Bool) (m n : ℕ) → suc m ≤ cond b (suc n) 0 → (b ≡ true) × (m ≤ n)
cond-suc true m n h = (refl, omega arith)
cond-suc false m n h = absurd (omega arith)

pub Begins-from_begun : (steps : List Step) (captures : List ℕ) (n : ℕ) → n ≤ begun steps captures → Begins steps (take n captures)
Begins-from_begun steps captures zero h = completed steps
Begins-from_begun [] captures (suc n) h = absurd (omega arith)
Begins-from_begun (Point point ∷ steps) [] (suc n) h = absurd (omega arith)
Begins-from_begun (Point point ∷ steps) (capture ∷ rest) (suc n) h =
    let both = cond-suc (capture == point) n (begun steps rest) h in
    let b = Begins-from_begun steps rest n both.1 in
    (b.0, (take n rest ++ b.0, ap (λ c. c ∷ (take n rest ++ b.0)) (same_capture capture point both.0), b.1))
Begins-from_begun (One ∷ steps) [] (suc n) h = absurd (omega arith)
Begins-from_begun (One ∷ steps) (capture ∷ rest) (suc n) h =
    let b = Begins-from_begun steps rest n (omega arith) in
    (b.0, (capture, take n rest ++ b.0, refl, b.1))
Begins-from_begun (Many ∷ steps) captures (suc n) h =
    let c = completed steps in
    (c.0, (take (suc n) captures, c.0, refl, c.1))

-- and beyond it they do not
nil≢cons : (x : ℕ) (xs : List ℕ) → [] ≡ x ∷ xs → ⊥
nil≢cons x xs h = cc

heads : (a b : ℕ) (xs ys : List ℕ) → a ∷ xs ≡ b ∷ ys → (a ≡ b) × (xs ≡ ys)
heads a b xs ys h = (cc, cc)

pub begun-from_Begins : (steps : List Step) (captures : List ℕ) (n : ℕ) → n ≤ length captures → Begins steps (take n captures) → n ≤ begun steps captures
begun-from_Begins steps captures zero le b = omega arith
begun-from_Begins [] [] (suc n) le b = absurd (omega arith)
begun-from_Begins [] (capture ∷ rest) (suc n) le b = absurd (nil≢cons capture (take n rest ++ b.0) (sym b.1))
begun-from_Begins (Point point ∷ steps) [] (suc n) le b = absurd (omega arith)
begun-from_Begins (Point point ∷ steps) (capture ∷ rest) (suc n) le b =
    let h = heads capture point (take n rest ++ b.0) b.1.0 b.1.1 in
    let P : List ℕ → Type 0 = Matches steps in
    let m = begun-from_Begins steps rest n (omega arith) (b.0, subst P (sym h.1) b.1.2) in
    let e : (capture == point) ≡ true = same_test capture point h.0 in
    rw e (omega arith)
begun-from_Begins (One ∷ steps) [] (suc n) le b = absurd (omega arith)
begun-from_Begins (One ∷ steps) (capture ∷ rest) (suc n) le b =
    let h = heads capture b.1.0 (take n rest ++ b.0) b.1.1 b.1.2 in
    let P : List ℕ → Type 0 = Matches steps in
    let m = begun-from_Begins steps rest n (omega arith) (b.0, subst P (sym h.1) b.1.3) in
    omega arith
begun-from_Begins (Many ∷ steps) captures (suc n) le b = le
