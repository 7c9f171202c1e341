use Rattle.node_frames.proofs.Links.{frame_is_offered}
use Rattle.node_frames.proofs.laws.frame_is_offered.Goals as goal

pub returns : goal.returns
returns c = frame_is_offered
