-- What is true of a pipeline, with any numbers of nodes.
use Rattle.std.specs.Prelude.{ℕ, List}
use Rattle.run_law.specs.Snapshot.{Snapshot}
use Rattle.net_law.specs.Nets.{Net, NetStands, AreFiles, lists_of}

-- each moment of a pipeline is one of the laws of a run
abbrev pub NetIsSnapshot : Type 0
NetIsSnapshot = (net : Net) (files : List (List ℕ)) (start : List ℕ) → NetStands net → AreFiles net files → Snapshot net.job files net.shape start (lists_of net start)
