use Rattle.net_law.proofs.Sound as law
use Rattle.net_law.proofs.laws.view_is_sound.Goals as goal

pub returns-clause-sound : goal.returns-clause-sound
returns-clause-sound c = law.view_is_sound

pub returns-clause-limited : goal.returns-clause-limited
returns-clause-limited c = law.view_is_limited

pub returns-clause-joined : goal.returns-clause-joined
returns-clause-joined c = law.view_is_joined
