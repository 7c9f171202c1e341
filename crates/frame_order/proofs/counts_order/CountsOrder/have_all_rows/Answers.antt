use Rattle.std.proofs.Common.{◌≡◌, ◌%◌, true, false, arith}
use Rattle.run_law.specs.Links.{HasRow}
use Rattle.frame_order.proofs.Lists.{upto_next}
use Rattle.frame_order.proofs.counts_order.CountsOrder.have_all_rows.Goals as goal

pub returns-then-lacks : goal.returns-then-lacks
returns-then-lacks c =
    let l = c.lacks.ensures.yes c.if-lacks.true in (
      λ t. absurd (let never : false ≡ true = t in cc),
      λ all. absurd (l.1 (all c.loop-c.c (omega (arith, c.loop-c-test.true, c.loop-c.auto.c-end, c.capture_count-c-end.ensures.count), l.0))),
    )

pub loop-c-preserved : goal.loop-c-preserved
loop-c-preserved c =
    upto_next (λ k. k % c.args.parsers ≡ c.args.parser → HasRow k c.args.self.now) c.loop-c.c c.loop-c.invariant (c.lacks.ensures.no c.if-lacks.false)
