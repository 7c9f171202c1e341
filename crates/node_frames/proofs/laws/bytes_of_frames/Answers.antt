use Rattle.node_frames.proofs.Links.{bytes_of_frames}
use Rattle.node_frames.proofs.laws.bytes_of_frames.Goals as goal

pub returns : goal.returns
returns c = bytes_of_frames
