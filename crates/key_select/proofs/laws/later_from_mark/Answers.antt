use Rattle.key_select.proofs.Marks as law
use Rattle.key_select.proofs.laws.later_from_mark.Goals as goal

pub returns : goal.returns
returns c = law.later_from_mark
