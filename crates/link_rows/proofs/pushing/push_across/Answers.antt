-- One sender more.
use Rattle.std.proofs.Common.{◌+◌, ◌≤◌, List, length, sym, ap, subst, arith}
use Rattle.std.proofs.lemmas.List.FromFn.{length-map-range_with_len}
use Rattle.credit_link.specs.Ends.{TxSeen}
use Rattle.pipeline_law.specs.Rows.{ends_at, row_between, rows_out}
use Rattle.link_rows.proofs.Behind.{end_is, put_list, list_room}
use Rattle.link_rows.proofs.pushing.push_across.Goals as goal

pub push_out-requires-clause-outs : goal.push_out-requires-clause-outs
push_out-requires-clause-outs g c =
    subst (λ (l : List TxSeen). length c.args.receivers.now.items ≤ length l) (end_is g.A.SendsFrames.outs c.args.senders.now.items c.senders.i c.get.result.now c.get.ensures)
    (c.requires.outs c.senders.i (omega (arith, c.senders-test.true, c.len-i-end.ensures)))

pub push_out-requires-clause-room : goal.push_out-requires-clause-room
push_out-requires-clause-room g c =
    let ins = ends_at g.B.TakesFrames.ins c.args.receivers.now.items in
    let count = length c.args.receivers.now.items in
    list_room c.args.rows.now c.senders.rows (λ i. rows_out (ends_at g.A.SendsFrames.outs c.args.senders.now.items i) i count ins (c.args.from + i) c.args.to) count c.senders.i
    (length c.args.senders.now.items)
    (λ i. length-map-range_with_len (λ j. row_between (ends_at g.A.SendsFrames.outs c.args.senders.now.items i) j (ins j) i (c.args.from + i) (c.args.to + j)) 0 count) c.senders.invariant c.requires.room
    (omega (arith, c.senders-test.true, c.len-i-end.ensures))

pub senders-preserved : goal.senders-preserved
senders-preserved g c =
    let ins = ends_at g.B.TakesFrames.ins c.args.receivers.now.items in
    let count = length c.args.receivers.now.items in
    put_list c.args.rows.now c.senders.rows c.push_out.new.rows (λ i. rows_out (ends_at g.A.SendsFrames.outs c.args.senders.now.items i) i count ins (c.args.from + i) c.args.to) c.senders.i
    (rows_out (g.A.SendsFrames.outs c.get.result.now) c.senders.i count ins (c.args.from + c.senders.i) c.args.to) c.senders.invariant c.push_out.ensures
    (ap (λ (l : List TxSeen). rows_out l c.senders.i count ins (c.args.from + c.senders.i) c.args.to)
    (sym (end_is g.A.SendsFrames.outs c.args.senders.now.items c.senders.i c.get.result.now c.get.ensures)))
