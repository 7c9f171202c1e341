use Rattle.std.specs.Prelude.{IsTrue}
use Rattle.round_law.proofs.Rounds.{still_is_done}
use Rattle.round_law.proofs.laws.still_is_done.Goals as goal

pub returns : goal.returns
returns g c there = still_is_done (λ n. IsTrue (there n))
