-- The verdict on lost packets.
use Rattle.std.specs.Prelude.{ℕ, ◌≡◌, ◌-◌, ◌==◌, List, length, Bool, if◌then◌else◌, slice_get, All, Any, Some, IsBitSet}
use Rattle.std.specs.List.{list_any}
use Rattle.std.specs.Option.{option_map_or}
use Rattle.std.specs.Int.{bit_at}
use Rattle.ds_base.specs.declared.summary.Summary.{Summary}
use Rattle.ds_base.specs.declared.verdict.Verdict.{Verdict}
use Rattle.ds_base.specs.declared.verdict.Verdict.TheVariants.{Fine, Dropped}
use Rattle.path_judges.specs.Members.{capture_of}

-- the member is of an exit: the bit of its capture's number is set
abbrev pub IsOfExit : ℕ → Summary → Type 0
IsOfExit exits member = IsBitSet exits (capture_of member)

-- no member is of an exit, and the last member is of this capture
pub record IsLastSeen (exits : ℕ) (members : List Summary) (capture : ℕ) : Type 0 where
  pub no_exit : All (λ member. ¬ IsOfExit exits member) members
  pub last : Summary
  pub is_last : slice_get members (length members - 1) ≡ Some last
  pub capture_is : capture ≡ capture_of last

-- Fine where a member is of an exit; else Dropped with the last member's capture
abbrev pub IsDropVerdict : ℕ → List Summary → Verdict → Type 0
IsDropVerdict exits members Fine = Any (IsOfExit exits) members
IsDropVerdict exits members (Dropped capture) = IsLastSeen exits members capture
IsDropVerdict exits members _ = ⊥

-- the same, as a test
abbrev pub is_of_exit : ℕ → Summary → Bool
is_of_exit exits member = bit_at exits (capture_of member) == 1

-- that verdict, computed
abbrev pub drop_verdict : ℕ → List Summary → Verdict
drop_verdict exits members =
    if list_any (is_of_exit exits) members then Fine
    else Dropped (option_map_or capture_of (slice_get members (length members - 1)) 0)
