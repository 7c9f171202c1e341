use Rattle.std.proofs.Common.{◌++◌}
use Rattle.std.specs.Prelude.{option_to_list}
use Rattle.run_model.proofs.tests.nodes.next_due.Goals as goal

pub returns : goal.returns
returns c job taken h = record {
  put = h.put ++ option_to_list c.next_due.result;
  is = c.next_due.ensures.puts job taken h.put h.is;
}
