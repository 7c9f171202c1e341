use Rattle.profiles.proofs.Classes.{least_class}
use Rattle.profiles.proofs.laws.least_class.Goals as goal

pub returns : goal.returns
returns c = least_class
