use Rattle.profiles.proofs.Windows.{within_window}
use Rattle.profiles.proofs.laws.within_window.Goals as goal

pub returns : goal.returns
returns c = within_window
