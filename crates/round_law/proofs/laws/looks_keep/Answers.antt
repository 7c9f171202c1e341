use Rattle.round_law.proofs.Looked.{looks_keep}
use Rattle.round_law.proofs.laws.looks_keep.Goals as goal

pub returns : goal.returns
returns c = looks_keep
