use Rattle.ds_base.proofs.Fronts.{same_front}
use Rattle.ds_base.proofs.laws.same_front.Goals as goal

pub returns : goal.returns
returns g c at p xs ys = same_front at p xs ys
