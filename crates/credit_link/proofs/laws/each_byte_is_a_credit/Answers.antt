use Rattle.credit_link.proofs.Joining.{each_byte_is_a_credit}
use Rattle.credit_link.proofs.laws.each_byte_is_a_credit.Goals as goal

pub returns : goal.returns
returns c = each_byte_is_a_credit
