-- The shape of a pipeline, and how captures, keys and groups are shared out among its nodes.
use Rattle.std.specs.Prelude.{ℕ, ◌≡◌, ◌<◌, ◌+◌, ◌%◌, ◌==◌, Bool, List, [], ◌∷◌, ◌++◌, filter, if◌then◌else◌}
use Rattle.ds_base.specs.Copies.{Copies}
use Rattle.ds_base.specs.Keys.{shard_of}
use Rattle.ds_base.specs.declared.summary.Summary.{Summary}

-- how many nodes there are of each kind but the merge, of which there is one
pub record Shape : Type 0 where
  pub parsers : ℕ
  pub groupers : ℕ
  pub processors : ℕ

-- there is one of each
pub record IsShape (shape : Shape) : Type 0 where
  pub parsers : 0 < shape.parsers
  pub groupers : 0 < shape.groupers
  pub processors : 0 < shape.processors

-- the capture is one of the job's, of which there are so many, and belongs to this parser
abbrev pub IsCaptureOf : (captures : ℕ) → Shape → (parser capture : ℕ) → Type 0
IsCaptureOf captures shape parser capture = (capture < captures) × (capture % shape.parsers ≡ parser)

-- the summaries of one capture
abbrev pub of_capture : ℕ → List Summary → List Summary
of_capture capture ss = filter (λ s. s.at.capture == capture) ss

-- whether the key is of the shard g among n
abbrev pub is_of_shard : (g n : ℕ) → List ℕ → Bool
is_of_shard g n key = shard_of key n == g

-- the summaries whose keys are of the shard g among n
abbrev pub summaries_of_shard : (g n : ℕ) → List Summary → List Summary
summaries_of_shard g n ss = filter (λ s. is_of_shard g n s.key) ss

-- the groups whose keys are of the shard g among n
abbrev pub groups_of_shard : (g n : ℕ) → List Copies → List Copies
groups_of_shard g n xs = filter (λ x. is_of_shard g n x.key) xs

-- the items with this number
abbrev pub with_number : {X : Type 0} → ℕ → List (ℕ × X) → List X
with_number n [] = []
with_number n (e ∷ es) = if e.0 == n then e.1 ∷ with_number n es else with_number n es

-- the items, each with the number of the one of n to which it goes: the first to k, and each other to the one after
abbrev pub numbered : {X : Type 0} → (n k : ℕ) → List X → List (ℕ × X)
numbered n k [] = []
numbered n k (x ∷ xs) = (k % n, x) ∷ numbered n (k + 1) xs

-- what goes to q, where the items go to n in turn, the first to g
abbrev pub dealt : {X : Type 0} → (n g q : ℕ) → List X → List X
dealt n g q xs = with_number q (numbered n g xs)

-- the first list is a front of the second
pub record IsFront {X : Type 0} (front whole : List X) : Type 0 where
  pub rest : List X
  pub joined : whole ≡ front ++ rest
