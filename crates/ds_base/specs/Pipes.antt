-- What a contract sees of an end of a one-way pipe, and what one call of an end does.
use Rattle.std.specs.Prelude.{ℕ, ◌≡◌, ◌<◌, ◌≤◌, ◌+◌, ◌-◌, ◌^◌, ◌++◌, Bool, IsTrue, List, length, take, min, Result, Ok, Err}
use Rattle.ds_base.specs.Faults.{Rose}
use Rattle.ds_base.specs.declared.source.Failed.{Failed}

-- An end of a pipe: whether it tells, the bytes that it has sent or received, its failures, how many
-- times in a row it answered 0 to an argument that is not empty, and how many bytes it is known to
-- take or to hand over.
pub record PipeSeen : Type 0 where
  pub told : Bool
  pub bytes : List ℕ
  pub faults : ℕ
  pub silent : ℕ
  pub sure : ℕ

-- a call that moved n bytes, the first ones of `front`, as long as the call's argument
pub record PipeMoves (before after : PipeSeen) (front : List ℕ) (n : ℕ) : Type 0 where
  pub told : after.told ≡ before.told
  pub within : n ≤ length front
  pub bytes : IsTrue before.told → after.bytes ≡ before.bytes ++ take n front
  pub faults : after.faults ≡ before.faults
  pub heard : 0 < n → after.silent ≡ 0
  pub silent : n ≡ 0 → 0 < length front → after.silent ≡ min (before.silent + 1) (2 ^ 64 - 1)
  pub unasked : length front ≡ 0 → after.silent ≡ before.silent
  pub none_sure : n ≡ 0 → 0 < length front → before.sure ≡ 0
  pub sure : before.sure ≤ after.sure + n

-- a call that failed
pub record PipeFails (before after : PipeSeen) : Type 0 where
  pub told : after.told ≡ before.told
  pub bytes : IsTrue before.told → after.bytes ≡ before.bytes
  pub faults : Rose before.faults after.faults
  pub silent : after.silent ≡ before.silent
  pub sure : before.sure ≤ after.sure

-- one call of an end
abbrev pub PipeSteps : (before after : PipeSeen) (front : List ℕ) → Result ℕ Failed → Type 0
PipeSteps before after front (Ok n) = PipeMoves before after front n
PipeSteps before after front (Err failed) = PipeFails before after

-- in a call that found the end as before and left it as after, it answered 0: its count of such answers
-- rose or stands at its end, and of no byte was it sure when the call began
abbrev pub AnsweredZero : (before after : PipeSeen) → Type 0
AnsweredZero before after = (before.sure ≡ 0) × Rose before.silent after.silent
