-- What a contract sees of a ring: its name, and what its two ends know of it.
use Rattle.std.specs.Prelude.{ℕ, ◌≡◌, ◌≤◌, ◌+◌, ◌++◌, List, [], length, true}
use denote.RawPtr.{Ptr}
use Rattle.rtrb.specs.declared.end.End.{End}
use Rattle.ds_base.specs.Pipes.{PipeSeen}

-- which ring an end belongs to: how many places it has, and where they lie
pub record PipeName : Type 0 where
  pub capacity : ℕ
  pub views : ℕ × ℕ
  pub words : Ptr
  pub slots : Ptr

abbrev pub name_of : {T A P : Type 0} → End T A P → PipeName
name_of e = record { capacity = e.names.0; views = e.names.1; words = e.words; slots = e.slots }

-- an end that has moved no byte, and is sure of so many
abbrev pub fresh : ℕ → PipeSeen
fresh sure = record { told = true; bytes = []; faults = 0; silent = 0; sure = sure }

-- a look at an end moves no byte, and the end is sure of no fewer than before
pub record Looks (before after : PipeSeen) : Type 0 where
  pub told : after.told ≡ before.told
  pub bytes : after.bytes ≡ before.bytes
  pub faults : after.faults ≡ before.faults
  pub silent : after.silent ≡ before.silent
  pub sure : before.sure ≤ after.sure

-- the two ends of one ring know of every byte in it and of every free place: what was received and then
-- what lies in the ring is what was sent
pub record IsOnRing (capacity : ℕ) (tx rx : PipeSeen) : Type 0 where
  pub between : List ℕ
  pub sent : tx.bytes ≡ rx.bytes ++ between
  pub items : rx.sure ≡ length between
  pub room : tx.sure + length between ≡ capacity
