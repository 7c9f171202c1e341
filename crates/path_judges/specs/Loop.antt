-- The verdict on packets that came back.
use Rattle.std.specs.Prelude.{ℕ, ◌≡◌, ◌<◌, ◌≤◌, ◌==◌, ◌&&◌, nat_lt, List, [], ◌∷◌, ◌++◌, Bool, Option, Some, None, slice_get}
use Rattle.std.specs.List.{find}
use Rattle.ds_base.specs.declared.summary.Summary.{Summary}
use Rattle.ds_base.specs.declared.verdict.Verdict.{Verdict}
use Rattle.ds_base.specs.declared.verdict.Verdict.TheVariants.{Fine, Loop}
use Rattle.path_judges.specs.Members.{capture_of, value_of}

-- member i, below j, and member j are of one capture, and the hop value of i exceeds that of j
pub record Falls (hop : ℕ) (members : List Summary) (i j : ℕ) (high low : Summary) : Type 0 where
  pub below : i < j
  pub member_i : slice_get members i ≡ Some high
  pub member_j : slice_get members j ≡ Some low
  pub one_capture : capture_of high ≡ capture_of low
  pub exceeds : value_of hop low < value_of hop high

-- that, with the least j, and then the least i; it is of this capture, with these two values
pub record IsFirstFall (hop : ℕ) (members : List Summary) (capture high low : ℕ) : Type 0 where
  pub i : ℕ
  pub j : ℕ
  pub at_i : Summary
  pub at_j : Summary
  pub falls : Falls hop members i j at_i at_j
  pub least_j : (k l : ℕ) (a b : Summary) → Falls hop members k l a b → j ≤ l
  pub least_i : (k : ℕ) (a b : Summary) → Falls hop members k j a b → i ≤ k
  pub capture_is : capture ≡ capture_of at_j
  pub high_is : high ≡ value_of hop at_i
  pub low_is : low ≡ value_of hop at_j

-- no two members fall
abbrev pub NeverFalls : ℕ → List Summary → Type 0
NeverFalls hop members = (i j : ℕ) (high low : Summary) → ¬ Falls hop members i j high low

-- Loop with the first fall's capture and both values; Fine where there is none
abbrev pub IsLoopVerdict : ℕ → List Summary → Verdict → Type 0
IsLoopVerdict hop members Fine = NeverFalls hop members
IsLoopVerdict hop members (Loop capture high low) = IsFirstFall hop members capture high low
IsLoopVerdict hop members _ = ⊥

-- the member is of the other's capture, and its hop value is the greater
abbrev pub is_above : ℕ → Summary → Summary → Bool
is_above hop low member = (capture_of member == capture_of low) && nat_lt (value_of hop low) (value_of hop member)

-- a loop at this member, where an earlier one is above it
abbrev pub loop_at : ℕ → Summary → Option Summary → Verdict → Verdict
loop_at hop low None later = later
loop_at hop low (Some high) later = Loop (capture_of low) (value_of hop high) (value_of hop low)

-- the verdict on members after those that were seen
abbrev pub loop_after : ℕ → List Summary → List Summary → Verdict
loop_after hop seen [] = Fine
loop_after hop seen (member ∷ members) =
    loop_at hop member (find (is_above hop member) seen) (loop_after hop (seen ++ member ∷ []) members)

-- that verdict, computed
abbrev pub loop_verdict : ℕ → List Summary → Verdict
loop_verdict hop members = loop_after hop [] members
