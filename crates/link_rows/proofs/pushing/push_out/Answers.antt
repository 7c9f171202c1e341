-- One receiver more.
use Rattle.std.proofs.Common.{◌+◌, ◌<◌, List, length, sym, ap, subst, arith}
use Rattle.credit_link.specs.Ends.{RxSeen}
use Rattle.pipeline_law.specs.Rows.{ends_at, row_between}
use Rattle.link_rows.proofs.Behind.{end_is, put_row, row_room}
use Rattle.link_rows.proofs.pushing.push_out.Goals as goal

pub push_one-requires-clause-there : goal.push_one-requires-clause-there
push_one-requires-clause-there g c = (
  omega (arith, c.requires.outs, c.receivers-test.true, c.len-j-end.ensures),
  subst (λ (l : List RxSeen). c.args.i < length l) (end_is g.B.TakesFrames.ins c.args.receivers.now.items c.receivers.j c.get.result.now c.get.ensures)
      (c.requires.ins c.receivers.j (omega (arith, c.receivers-test.true, c.len-j-end.ensures))),
)

pub push_one-requires-clause-room : goal.push_one-requires-clause-room
push_one-requires-clause-room g c =
    row_room c.args.rows.now c.receivers.rows (λ j. row_between (g.A.SendsFrames.outs c.args.sender.now) j (ends_at g.B.TakesFrames.ins c.args.receivers.now.items j) c.args.i c.args.from (c.args.to + j))
    c.receivers.j (length c.args.receivers.now.items) c.receivers.invariant c.requires.room (omega (arith, c.receivers-test.true, c.len-j-end.ensures))

pub receivers-preserved : goal.receivers-preserved
receivers-preserved g c =
    let outs = g.A.SendsFrames.outs c.args.sender.now in
    put_row c.args.rows.now c.receivers.rows c.push_one.new.rows (λ j. row_between outs j (ends_at g.B.TakesFrames.ins c.args.receivers.now.items j) c.args.i c.args.from (c.args.to + j)) c.receivers.j
    (row_between outs c.receivers.j (g.B.TakesFrames.ins c.get.result.now) c.args.i c.args.from (c.args.to + c.receivers.j)) c.receivers.invariant c.push_one.ensures
    (ap (λ (l : List RxSeen). row_between outs c.receivers.j l c.args.i c.args.from (c.args.to + c.receivers.j))
    (sym (end_is g.B.TakesFrames.ins c.args.receivers.now.items c.receivers.j c.get.result.now c.get.ensures)))
