use Rattle.round_law.proofs.Starts.{new_is_sound, new_is_limited}
use Rattle.round_law.proofs.laws.new_is_sound.Goals as goal

pub returns-clause-sound : goal.returns-clause-sound
returns-clause-sound c = new_is_sound

pub returns-clause-limited : goal.returns-clause-limited
returns-clause-limited c = new_is_limited
