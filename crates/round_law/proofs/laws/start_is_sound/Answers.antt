use Rattle.round_law.proofs.Ends.{start_is_sound}
use Rattle.round_law.proofs.laws.start_is_sound.Goals as goal

pub returns : goal.returns
returns c = start_is_sound
