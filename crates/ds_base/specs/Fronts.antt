-- Lists: what is in one, and its front by a test, up to the first item that fails it.
use Rattle.std.specs.Prelude.{Bool, IsTrue, List, [], ◌∷◌, ◌++◌, ◌≡◌, ◌⊎◌, ◌↔◌, if◌then◌else◌}
use Rattle.std.specs.List.{AllByRecursion}
use Rattle.ds_base.specs.Order.{Precedes}
use Rattle.ds_base.specs.declared.stamp.Stamp.{Stamp}

-- the item is in the list
abbrev pub IsIn : {X : Type 0} → X → List X → Type 0
IsIn x [] = ⊥
IsIn x (y ∷ ys) = (x ≡ y) ⊎ IsIn x ys

-- the items before the first that fails the test
abbrev pub upto : {X : Type 0} → (X → Bool) → List X → List X
upto p [] = []
upto p (x ∷ xs) = if p x then x ∷ upto p xs else []

-- the first item that fails the test, and all after it
abbrev pub onward : {X : Type 0} → (X → Bool) → List X → List X
onward p [] = []
onward p (x ∷ xs) = if p x then onward p xs else x ∷ xs

-- the first item, if there is one, fails the test
abbrev pub BeginsPast : {X : Type 0} → (X → Bool) → List X → Type 0
BeginsPast p [] = Unit {0}
BeginsPast p (x ∷ xs) = ¬ IsTrue (p x)

-- the front and what comes onward are the list, all of the front pass, and what comes onward begins past it
pub record AreParted {X : Type 0} (p : X → Bool) (xs : List X) : Type 0 where
  pub joined : upto p xs ++ onward p xs ≡ xs
  pub pass : AllByRecursion (λ x. IsTrue (p x)) (upto p xs)
  pub stops : BeginsPast p (onward p xs)

-- both lists have the same of what passes the test
abbrev pub SameWhere : {X : Type 0} → (X → Bool) → List X → List X → Type 0
SameWhere {X} p xs ys = (x : X) → IsTrue (p x) → IsIn x xs ↔ IsIn x ys

module _ {X : Type 0} (at : X → Stamp) where
  -- the stamp is before that of each of these
  abbrev pub PrecedesEach : Stamp → List X → Type 0
  PrecedesEach s [] = Unit {0}
  PrecedesEach s (x ∷ xs) = Precedes s (at x) × PrecedesEach s xs

  -- each stamp is before all later ones
  abbrev pub InOrder : List X → Type 0
  InOrder [] = Unit {0}
  InOrder (x ∷ xs) = PrecedesEach (at x) xs × InOrder xs

  -- what passes the test is before what fails it
  abbrev pub Falls : (X → Bool) → Type 0
  Falls p = (x y : X) → Precedes (at x) (at y) → IsTrue (p y) → IsTrue (p x)

  -- two lists in order that have the same of what passes a test that falls have the same front
  abbrev pub SameFront : (X → Bool) → List X → List X → Type 0
  SameFront p xs ys = InOrder xs → InOrder ys → Falls p → SameWhere p xs ys → upto p xs ≡ upto p ys
