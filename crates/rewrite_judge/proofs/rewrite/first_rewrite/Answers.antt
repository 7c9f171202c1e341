use Rattle.std.proofs.Common.{ℕ, ◌+◌, ◌-◌, sym, subst, arith}
use Rattle.rewrite_judge.proofs.Neighbours.{Passed, Passed-apart, Passed-kept, Passed-broken, Passed-end}
use Rattle.rewrite_judge.proofs.rewrite.first_rewrite.Goals as goal
use Rattle.rewrite_judge.proofs.rewrite.first_rewrite.Goals.{then-crosses+in_default, else-crosses}

pub returns-in-Some : goal.returns-in-Some
returns-in-Some c =
    Passed-broken c.args.from c.args.to c.args.rules.now.items c.args.members.now.items c.loop-next.next (c.loop-next.next - 1) c.loop-next.pair c.in-Some.rule c.get-first.result.now c.get-second.result.now
    (let f = c.loop-next.invariant.fewer in omega arith) c.get-first.ensures c.get-second.ensures c.loop-next.invariant (sym c.if-crosses.ensures) (sym c.in-Some.ensures)

pub loop-next-preserved : goal.loop-next-preserved
loop-next-preserved c =
    let P : ℕ → Type 0 = λ n. Passed c.args.from c.args.to c.args.rules.now.items c.args.members.now.items (c.loop-next.next + 1) n in
    let f = c.loop-next.invariant.fewer in
    elim c.if-crosses.branch [
      | then-crosses+in_default w ↦
          subst P (sym w.pair-is)
          (Passed-kept c.args.from c.args.to c.args.rules.now.items c.args.members.now.items c.loop-next.next (c.loop-next.next - 1) c.loop-next.pair c.get-first.result.now c.get-second.result.now
          (omega arith) c.get-first.ensures c.get-second.ensures c.loop-next.invariant (sym w.if-crosses.ensures) (sym w.in_default.ensures))
      | else-crosses w ↦
          subst P (sym w.pair-is)
          (Passed-apart c.args.from c.args.to c.args.rules.now.items c.args.members.now.items c.loop-next.next (c.loop-next.next - 1) c.loop-next.pair c.get-first.result.now c.get-second.result.now
          (omega arith) c.get-first.ensures c.get-second.ensures c.loop-next.invariant (sym w.if-crosses.ensures))
    ]

pub returns : goal.returns
returns c =
    Passed-end c.args.from c.args.to c.args.rules.now.items c.args.members.now.items c.loop-next.next c.loop-next.pair c.loop-next.invariant (omega arith)
