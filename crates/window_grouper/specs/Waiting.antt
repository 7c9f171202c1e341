-- The fields of a grouper: groups that are held, and summaries that wait in a map by their stamps, each in a box.
use Rattle.std.specs.Prelude.{ℕ, false, List, [], ◌∷◌, ◌≡◌, Option}
use Rattle.std.specs.Global.{Box}
use Rattle.std.specs.List.{AllByRecursion}
use Rattle.std.specs.Map.{values_of}
use Rattle.ds_base.specs.Copies.{Copies}
use Rattle.ds_base.specs.Fronts.{upto, onward}
use Rattle.ds_base.specs.Order.{InStampOrder}
use Rattle.ds_base.specs.declared.stamp.Stamp.{Stamp}
use Rattle.ds_base.specs.declared.summary.Summary.{Summary}
use Rattle.watermarks.specs.Least.{under}
use Rattle.window_grouper.specs.Grouping.{Grouping, marked, placed_all}
use Rattle.window_grouper.specs.Open.{Open}
use Rattle.window_grouper.specs.Placing.{HaveBegun}

-- the entries, each with its summary in place of the box
abbrev pub opened : List (Stamp × Box Summary) → List (Stamp × Summary)
opened [] = []
opened (e ∷ es) = (e.0, e.1.value) ∷ opened es

-- what is seen of these marks, these groups and the summaries that were not placed
abbrev pub seen : List (Option ℕ) → Open → List Summary → Grouping
seen marks groups ss = marked marks (record { window = groups.window; marks = marks; held = groups.held; waiting = ss })

-- each summary has its own stamp as its key, they are in order, and no group that is held began after a summary
-- that waits or that may still come
pub record IsTidy (bound : Option ℕ) (gs : List Copies) (entries : List (Stamp × Summary)) : Type 0 where
  pub stamped : AllByRecursion (λ e. e.0 ≡ e.1.at) entries
  pub ordered : InStampOrder (values_of entries)
  pub begun : AllByRecursion (λ s. HaveBegun s.at.time gs) (values_of entries)
  pub to_come : (t : ℕ) → under bound t ≡ false → HaveBegun t gs

-- some of the summaries below the bound were placed, which changes nothing of what is seen
pub record IsKept (bound : Option ℕ) (old : Open) (before : List (Stamp × Summary)) (new : Open) (after : List (Stamp × Summary)) : Type 0 where
  pub window : new.window ≡ old.window
  pub tidy : IsTidy bound new.held after
  pub held : placed_all old.window new.held (upto (λ s. under bound s.at.time) (values_of after))
      ≡ placed_all old.window old.held (upto (λ s. under bound s.at.time) (values_of before))
  pub waiting : onward (λ s. under bound s.at.time) (values_of after) ≡ onward (λ s. under bound s.at.time) (values_of before)
