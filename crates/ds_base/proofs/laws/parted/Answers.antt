use Rattle.ds_base.proofs.Fronts.{parted}
use Rattle.ds_base.proofs.laws.parted.Goals as goal

pub returns : goal.returns
returns g c p xs = parted p xs
