-- The rows to the receivers so far.
use Rattle.pipeline_law.specs.Rows.{ends_at, rows_out}
use Rattle.link_rows.specs.Reading.{PutsBehind}
use Rattle.link_rows.proofs.pushing.push_out.Given as goal

abbrev pub invariant-receivers : goal.invariant-receivers
invariant-receivers g l = PutsBehind l.initial.rows l.rows (rows_out (g.A.SendsFrames.outs l.sender) l.i l.j (ends_at g.B.TakesFrames.ins l.receivers.items) l.from l.to)
