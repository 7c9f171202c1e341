use Rattle.profiles.proofs.Unique.{one_profile}
use Rattle.profiles.proofs.laws.one_profile.Goals as goal

pub returns : goal.returns
returns c = one_profile
