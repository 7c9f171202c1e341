-- What one call of a pipe's end is to a link.
use Rattle.std.specs.Prelude.{ℕ, ◌≡◌, ◌<◌, ◌≤◌, ◌+◌, ◌^◌}
use Rattle.ds_base.specs.Pipes.{PipeSeen, AnsweredZero}

-- a count of answers is that of a u64
abbrev pub IsHeard : PipeSeen → Type 0
IsHeard end = end.silent < 2 ^ 64

-- n bytes went through an end of a pipe, on which there was something to move or not: where none of them
-- moved, the end answered 0, and where nothing was there to move, it was left alone
pub record EndMoves (before after : PipeSeen) (IsAsked : Type 0) (n : ℕ) : Type 0 where
  pub told : after.told ≡ before.told
  pub faults : after.faults ≡ before.faults
  pub sure : before.sure ≤ after.sure + n
  pub zero : IsAsked → n ≡ 0 → AnsweredZero before after
  pub unasked : ¬ IsAsked → after ≡ before
