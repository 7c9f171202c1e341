-- The rows of the senders so far.
use Rattle.std.proofs.Common.{length}
use Rattle.pipeline_law.specs.Rows.{ends_at, rows_across}
use Rattle.link_rows.specs.Reading.{PutsBehind}
use Rattle.link_rows.proofs.pushing.push_across.Given as goal

abbrev pub invariant-senders : goal.invariant-senders
invariant-senders g l =
    PutsBehind l.initial.rows l.rows
    (rows_across l.i (ends_at g.A.SendsFrames.outs l.senders.items) (length l.receivers.items) (ends_at g.B.TakesFrames.ins l.receivers.items) l.from l.to)
