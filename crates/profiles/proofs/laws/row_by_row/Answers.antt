use Rattle.profiles.proofs.Windows.{row_by_row}
use Rattle.profiles.proofs.laws.row_by_row.Goals as goal

pub returns : goal.returns
returns c = row_by_row
