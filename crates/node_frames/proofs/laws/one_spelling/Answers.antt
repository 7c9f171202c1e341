use Rattle.std.proofs.Common.{sym, ◌∙◌}
use Rattle.node_frames.proofs.Frames.{one_wire}
use Rattle.node_frames.proofs.laws.one_spelling.Goals as goal

pub returns-clause-bytes : goal.returns-clause-bytes
returns-clause-bytes c = λ wire a b left right. left.same ∙ sym right.same

pub returns-clause-frame : goal.returns-clause-frame
returns-clause-frame c = one_wire
