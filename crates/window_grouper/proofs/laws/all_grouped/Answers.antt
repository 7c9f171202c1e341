use Rattle.window_grouper.proofs.Members.{all_grouped}
use Rattle.window_grouper.proofs.laws.all_grouped.Goals as goal

pub returns : goal.returns
returns c = all_grouped
