-- What a grouper holds, and the lists that it stands for.
use Rattle.std.specs.Prelude.{ℕ, Bool, true, false, List, [], ◌∷◌, ◌++◌, ◌≡◌, ◌≤◌, ◌+◌, ◌-◌, Option, Some, None, get_or, length}
use Rattle.std.specs.List.{AllByRecursion}
use Rattle.ds_base.specs.Copies.{Copies}
use Rattle.ds_base.specs.Fronts.{upto, onward}
use Rattle.ds_base.specs.declared.stamp.Stamp.{Stamp}
use Rattle.ds_base.specs.declared.summary.Summary.{Summary}
use Rattle.watermarks.specs.Least.{Allows, least_mark, under}
use Rattle.window_grouper.specs.Closed.{AreLate, is_closed}
use Rattle.window_grouper.specs.Groups.{groups_of, members_in}
use Rattle.window_grouper.specs.Placing.{placed}
use Rattle.window_grouper.specs.Sorted.{DiffersFromAll, StampsDiffer, by_stamp, insert_by_stamp}

-- what contracts see of a grouper: the marks of the captures; the groups that are held, in the order of their
-- firsts, of the summaries that all marks have passed; and the summaries that wait for the marks, in stamp order
pub record Grouping : Type 0 where
  pub window : ℕ
  pub marks : List (Option ℕ)
  pub held : List Copies
  pub waiting : List Summary

-- whether a time is below the least mark, so that no summary of it comes any more
abbrev pub is_past : List (Option ℕ) → ℕ → Bool
is_past marks t = under (least_mark marks) t

-- the capture has not ended, and its mark is at most the stamp's time
abbrev pub MayCome : List (Option ℕ) → Stamp → Type 0
MayCome marks at = Allows (get_or marks at.capture None) at.time

-- the groups after these summaries came, one after another
abbrev pub placed_all : ℕ → List Copies → List Summary → List Copies
placed_all window gs [] = gs
placed_all window gs (s ∷ ss) = placed_all window (placed window s gs) ss

-- what a grouper holds once its marks are these: the summaries that they have passed are in their groups
abbrev pub marked : List (Option ℕ) → Grouping → Grouping
marked marks now = record {
  window = now.window;
  marks = marks;
  held = placed_all now.window now.held (upto (λ s. is_past marks s.at.time) now.waiting);
  waiting = onward (λ s. is_past marks s.at.time) now.waiting;
}

-- the same with one summary more that waits
abbrev pub with_summary : Summary → Grouping → Grouping
with_summary s now = record { window = now.window; marks = now.marks; held = now.held; waiting = insert_by_stamp s now.waiting }

-- the same with one group more, before those that are held
abbrev pub with_group : Copies → Grouping → Grouping
with_group g now = record { window = now.window; marks = now.marks; held = g ∷ now.held; waiting = now.waiting }

-- The summaries `added` were added, and the groups `given` were given out. Of the summaries that the marks have
-- passed the groups are those given, which are closed, and those held; the others wait.
pub record StandsFor (now : Grouping) (window : ℕ) (added : List Summary) (given : List Copies) : Type 0 where
  pub one_window : now.window ≡ window
  pub differ : StampsDiffer added
  pub groups : groups_of window (upto (λ s. is_past now.marks s.at.time) (by_stamp added)) ≡ given ++ now.held
  pub later : onward (λ s. is_past now.marks s.at.time) (by_stamp added) ≡ now.waiting
  pub closed : AllByRecursion (λ g. is_closed (is_past now.marks) window g ≡ true) given

-- the first group that is held, if there is one, is not closed
abbrev pub IsSettled : Grouping → Type 0
IsSettled now = upto (is_closed (is_past now.marks) now.window) now.held ≡ []

-- no group that is held is closed
abbrev pub NoneClosed : Grouping → Type 0
NoneClosed now = AllByRecursion (λ g. is_closed (is_past now.marks) now.window g ≡ false) now.held

-- whatever is added later, the groups that are closed now are those given and the closed ones of those held: they
-- are the front of all groups, and change no more
abbrev pub ClosedInFront : Grouping → ℕ → List Summary → List Copies → List Summary → Type 0
ClosedInFront now window added given later = StandsFor now window added given → AreLate (is_past now.marks) later → StampsDiffer (added ++ later)
    → upto (is_closed (is_past now.marks) window) (groups_of window (by_stamp (added ++ later)))
    ≡ given ++ upto (is_closed (is_past now.marks) window) now.held

-- the groups given out, those held and the summaries that wait have as many summaries as were added
abbrev pub HeldOnce : Grouping → ℕ → List Summary → List Copies → Type 0
HeldOnce now window added given = StandsFor now window added given
    → members_in given + members_in now.held + length now.waiting ≡ length added

-- where the stamps of all that was added and of s differ, that of s differs from those that wait
abbrev pub StampsApart : Grouping → ℕ → List Summary → List Copies → Summary → Type 0
StampsApart now window added given s = StandsFor now window added given → StampsDiffer (added ++ s ∷ []) → DiffersFromAll s.at now.waiting

-- the first member, if there is one, has at least this time
abbrev pub BeginsFrom : ℕ → List Summary → Type 0
BeginsFrom t [] = Unit {0}
BeginsFrom t (f ∷ fs) = t ≤ f.at.time

-- of the groups of l all but those given begin at this time or later
abbrev pub OthersFrom : ℕ → ℕ → List Summary → List Copies → Type 0
OthersFrom t window l given =
    (rest : List Copies) × (groups_of window l ≡ given ++ rest) × AllByRecursion (λ g. BeginsFrom t g.members) rest

-- the least mark minus the window
abbrev pub out_mark : Option ℕ → ℕ → Option ℕ
out_mark None window = None
out_mark (Some m) window = Some (m - window)
