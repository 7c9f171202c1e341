-- A pipeline in which nothing is held back.
use Rattle.std.specs.Prelude.{ℕ, ◌≡◌, ◌<◌, List}
use Rattle.run_law.specs.Snapshot.{IsAtRest}
use Rattle.net_law.specs.Groupers.{GrouperRests}
use Rattle.net_law.specs.Processors.{ProcessorRests}
use Rattle.net_law.specs.Merges.{MergeRests}
use Rattle.net_law.specs.Nets.{Net, NetStands, grouper_at, processor_at, lists_of}

-- all nodes but the parsers have rested, and took all that was put for them
pub record HaveRested (net : Net) (start : List ℕ) : Type 0 where
  pub groupers : (g : ℕ) → g < net.shape.groupers → GrouperRests (grouper_at net g)
  pub processors : (q : ℕ) → q < net.shape.processors → ProcessorRests (processor_at net q)
  pub merge : MergeRests net.merge
  pub groups : (g q : ℕ) → g < net.shape.groupers → q < net.shape.processors → ((lists_of net start).groups g q).taken ≡ ((lists_of net start).groups g q).put
  pub answers : (q : ℕ) → q < net.shape.processors → ((lists_of net start).answers q).taken ≡ ((lists_of net start).answers q).put

abbrev pub RestedIsAtRest : Type 0
RestedIsAtRest = (net : Net) (start : List ℕ) → NetStands net → HaveRested net start → IsAtRest net.job net.shape start (lists_of net start)
