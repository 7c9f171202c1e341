use Rattle.trace_gen.specs.Captures.{all_seen, seen_at}
use Rattle.trace_gen.proofs.ReadBack.{reads_back}
use Rattle.trace_gen.proofs.Times.{seen_few, seen_at_soon}
use Rattle.trace_gen.proofs.law.files_read_back.Goals as goal

pub returns : goal.returns
returns c = λ number point. reads_back (seen_at point (all_seen number)) (seen_few number point) (seen_at_soon number point)
