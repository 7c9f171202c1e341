-- The rows of the senders so far.
use Rattle.pipeline_law.specs.Rows.{ends_at, rows_into}
use Rattle.link_rows.specs.Reading.{PutsBehind}
use Rattle.link_rows.proofs.pushing.push_into.Given as goal

abbrev pub invariant-senders : goal.invariant-senders
invariant-senders g l =
    PutsBehind l.initial.rows l.rows (rows_into l.i (ends_at g.A.SendsFrames.outs l.senders.items) l.link (g.B.TakesFrames.ins l.receiver) l.first l.from l.to)
