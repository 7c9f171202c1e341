use Rattle.std.proofs.Common.{◌+◌, ◌-◌, [], ◌∷◌, length, arith, ap, ◌∙◌, length-append}
use Rattle.node_frames.proofs.Reading.{reads_next, reads_none, reads_all, counted}
use Rattle.node_frames.proofs.take.take_counted.Goals as goal

pub returns-in-Err-clause-refused : goal.returns-in-Err-clause-refused
returns-in-Err-clause-refused c =
    counted c.args.count c.args.bytes.now c.if-count-gt16.false
    ∙ reads_none 16 c.args.count c.args.bytes.now c.loop-i.nums (c.args.count - c.loop-i.i) (c.args.count - (c.loop-i.i + 1)) c.loop-i.rest.now (omega arith) c.in-Err.ensures.refused c.loop-i.invariant.1

pub loop-i-preserved : goal.loop-i-preserved
loop-i-preserved c = (
  ap length c.push.ensures ∙ omega (arith, length-append c.loop-i.nums (c.in-Ok.n ∷ []), c.loop-i.invariant.0),
  rw c.push.ensures
      (reads_next 16 c.args.count c.args.bytes.now c.loop-i.nums (c.args.count - c.loop-i.i) (c.args.count - (c.loop-i.i + 1)) c.loop-i.rest.now c.in-Ok.n c.in-Ok.after.now (omega arith) c.in-Ok.ensures.read c.loop-i.invariant.1),
)

pub returns-clause-read : goal.returns-clause-read
returns-clause-read c =
    counted c.args.count c.args.bytes.now c.if-count-gt16.false
    ∙ reads_all 16 c.args.count c.args.bytes.now c.loop-i.nums (c.args.count - c.loop-i.i) c.loop-i.rest.now (omega arith) c.loop-i.invariant.1
