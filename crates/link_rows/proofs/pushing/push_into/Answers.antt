-- One sender more.
use Rattle.std.proofs.Common.{◌+◌, ◌<◌, List, length, sym, ap, subst, arith}
use Rattle.credit_link.specs.Ends.{TxSeen}
use Rattle.pipeline_law.specs.Rows.{ends_at, row_between}
use Rattle.link_rows.proofs.Behind.{end_is, put_row, row_room}
use Rattle.link_rows.proofs.pushing.push_into.Goals as goal

pub push_one-requires-clause-there : goal.push_one-requires-clause-there
push_one-requires-clause-there g c = (
  subst (λ (l : List TxSeen). c.args.link < length l) (end_is g.A.SendsFrames.outs c.args.senders.now.items c.senders.i c.get.result.now c.get.ensures)
      (c.requires.outs c.senders.i (omega (arith, c.senders-test.true, c.len-i-end.ensures))),
  omega (arith, c.requires.ins, c.senders-test.true, c.len-i-end.ensures),
)

pub push_one-requires-clause-room : goal.push_one-requires-clause-room
push_one-requires-clause-room g c =
    row_room c.args.rows.now c.senders.rows
    (λ i. row_between (ends_at g.A.SendsFrames.outs c.args.senders.now.items i) c.args.link (g.B.TakesFrames.ins c.args.receiver.now) (c.args.first + i) (c.args.from + i) c.args.to)
    c.senders.i (length c.args.senders.now.items) c.senders.invariant c.requires.room (omega (arith, c.senders-test.true, c.len-i-end.ensures))

pub senders-preserved : goal.senders-preserved
senders-preserved g c =
    let ins = g.B.TakesFrames.ins c.args.receiver.now in
    put_row c.args.rows.now c.senders.rows c.push_one.new.rows (λ i. row_between (ends_at g.A.SendsFrames.outs c.args.senders.now.items i) c.args.link ins (c.args.first + i) (c.args.from + i) c.args.to) c.senders.i
    (row_between (g.A.SendsFrames.outs c.get.result.now) c.args.link ins (c.args.first + c.senders.i) (c.args.from + c.senders.i) c.args.to) c.senders.invariant c.push_one.ensures
    (ap (λ (l : List TxSeen). row_between l c.args.link ins (c.args.first + c.senders.i) (c.args.from + c.senders.i) c.args.to)
    (sym (end_is g.A.SendsFrames.outs c.args.senders.now.items c.senders.i c.get.result.now c.get.ensures)))
