use Rattle.trace_gen.specs.Captures.{all_seen}
use Rattle.trace_gen.proofs.Counting.{all_filed}
use Rattle.trace_gen.proofs.Times.{all_at_points}
use Rattle.trace_gen.proofs.law.all_is_filed.Goals as goal

pub returns : goal.returns
returns c = λ number. all_filed (all_seen number) (all_at_points number)
