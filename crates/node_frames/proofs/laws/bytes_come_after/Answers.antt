use Rattle.node_frames.proofs.Links.{bytes_come_after}
use Rattle.node_frames.proofs.laws.bytes_come_after.Goals as goal

pub returns : goal.returns
returns c = bytes_come_after
