use Rattle.window_grouper.proofs.Keys.{other_key}
use Rattle.window_grouper.proofs.newest.Newest.put.Goals as goal

pub returns-in-Ok-clause-put : goal.returns-in-Ok-clause-put
returns-in-Ok-clause-put c = record {
  here = cc (c.in-Ok.ensures.updates.1);
  others = λ other apart. c.in-Ok.ensures.updates.2 other (other_key c.args.key other apart);
}
