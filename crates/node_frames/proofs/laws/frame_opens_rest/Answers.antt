use Rattle.node_frames.proofs.Links.{frame_opens_rest}
use Rattle.node_frames.proofs.laws.frame_opens_rest.Goals as goal

pub returns : goal.returns
returns c = frame_opens_rest
