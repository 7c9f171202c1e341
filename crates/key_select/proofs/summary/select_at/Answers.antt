use Rattle.key_select.proofs.Jobs.{known_key, known_filter}
use Rattle.key_select.proofs.summary.select_at.Goals as goal

pub put_key-requires-clause-known : goal.put_key-requires-clause-known
put_key-requires-clause-known c = known_key c.args.job.now c.put_values.new.vals (c.put_values.ensures.filled c.if-not-put_values.false)

pub is_wanted-requires : goal.is_wanted-requires
is_wanted-requires c = known_filter c.args.job.now c.put_values.new.vals (c.put_values.ensures.filled c.if-not-put_values.false)
