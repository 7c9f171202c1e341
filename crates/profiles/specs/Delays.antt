-- The delays of groups: how much later each copy of a packet was seen than the copy before it.
use Rattle.std.specs.Prelude.{ℕ, ◌-◌, ◌==◌, ◌&&◌, List, [], ◌∷◌, map, filter, flat_map}
use Rattle.ds_base.specs.Copies.{Copies}
use Rattle.ds_base.specs.declared.summary.Summary.{Summary}

-- a delay: the earlier copy was seen at `from`, and the later one at `to`, `time` nanoseconds later
pub record Delay : Type 0 where
  pub from : ℕ
  pub to : ℕ
  pub time : ℕ

-- from one copy to the next
abbrev pub delay_between : Summary → Summary → Delay
delay_between a b = record { from = a.at.capture; to = b.at.capture; time = b.at.time - a.at.time }

-- those of each two neighbouring members
abbrev pub delays : List Summary → List Delay
delays [] = []
delays (a ∷ []) = []
delays (a ∷ b ∷ members) = delay_between a b ∷ delays (b ∷ members)

-- those of all groups
abbrev pub delays_of : List Copies → List Delay
delays_of groups = flat_map (λ g. delays g.members) groups

-- the times of those from one capture to another
abbrev pub times_between : ℕ → ℕ → List Delay → List ℕ
times_between from to ds = map (λ d. d.time) (filter (λ d. (d.from == from) && (d.to == to)) ds)
