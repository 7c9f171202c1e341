use Rattle.round_law.proofs.Bounds.{frames_fit}
use Rattle.round_law.proofs.laws.frames_fit.Goals as goal

pub returns : goal.returns
returns c = frames_fit
