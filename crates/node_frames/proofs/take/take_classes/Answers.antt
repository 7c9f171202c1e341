use Rattle.std.proofs.Common.{◌<◌, ◌+◌, ◌-◌, length, take, arith, ap, ◌∙◌, subst, sym, take_all, refl, Some}
use Rattle.std.proofs.lemmas.List.{length-set, take_more_set}
use Rattle.node_frames.proofs.Reading.{Reads, reads_first, reads_next, reads_none, reads_all}
use Rattle.node_frames.proofs.take.take_classes.Goals as goal

pub loop-i-init : goal.loop-i-init
loop-i-init c = (refl, reads_first 8 64 c.args.bytes.now)

pub returns-in-Err-clause-refused : goal.returns-in-Err-clause-refused
returns-in-Err-clause-refused c =
    reads_none 8 64 c.args.bytes.now (take c.loop-i.i c.loop-i.classes) (64 - c.loop-i.i) (64 - (c.loop-i.i + 1)) c.loop-i.rest.now (omega arith) c.in-Err.ensures.refused c.loop-i.invariant.1

pub loop-i-preserved : goal.loop-i-preserved
loop-i-preserved c =
    let lt : c.loop-i.i < length c.loop-i.classes = omega (arith, c.loop-i.invariant.0) in (
      length-set c.loop-i.classes c.loop-i.i c.in-Ok.n ∙ c.loop-i.invariant.0,
      subst (λ front. Reads 8 64 c.args.bytes.now front (64 - (c.loop-i.i + 1)) c.in-Ok.after.now) (sym (take_more_set c.loop-i.classes c.loop-i.i c.in-Ok.n lt))
          (reads_next 8 64 c.args.bytes.now (take c.loop-i.i c.loop-i.classes) (64 - c.loop-i.i) (64 - (c.loop-i.i + 1)) c.loop-i.rest.now c.in-Ok.n c.in-Ok.after.now (omega arith) c.in-Ok.ensures.read c.loop-i.invariant.1),
    )

pub returns-clause-read : goal.returns-clause-read
returns-clause-read c =
    reads_all 8 64 c.args.bytes.now (take c.loop-i.i c.loop-i.classes) (64 - c.loop-i.i) c.loop-i.rest.now (omega arith) c.loop-i.invariant.1
    ∙ ap (λ front. Some (front, c.loop-i.rest.now)) (take_all c.loop-i.i c.loop-i.classes (omega (arith, c.loop-i.invariant.0)))
