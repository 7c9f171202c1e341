use Rattle.key_select.proofs.Tallying.{accepted_parts}
use Rattle.key_select.proofs.laws.accepted_in_parts.Goals as goal

pub returns : goal.returns
returns c = accepted_parts
