use Rattle.std.proofs.Common.{◌≡◌, slice_get, Some, sym, ◌∙◌, arith}
use Rattle.path_judges.specs.Members.{capture_of, walk_of}
use Rattle.path_judges.proofs.Followed.{Followed-many, Followed-last, Followed-stop, Followed-next, Followed-done, walk-here, length-walk}
use Rattle.path_judges.proofs.matching.count_begun.Goals as goal
use Rattle.path_judges.proofs.matching.count_begun.Goals.{then-taken-len-via-then-taken-len, then-taken-len-via-else-taken-len+then-not-admits}

pub returns-then-is_many : goal.returns-then-is_many
returns-then-is_many c =
    c.len.ensures ∙ sym (length-walk c.args.members.now.items)
    ∙ Followed-many c.args.pattern.now (walk_of c.args.members.now.items) c.loop-k.k c.get-step.result c.loop-k.invariant c.get-step.ensures (sym c.if-is_many.ensures)

pub returns-then-taken-len : goal.returns-then-taken-len
returns-then-taken-len c =
    elim c.then-taken-len.branch [
      | then-taken-len-via-then-taken-len w ↦
          c.from-taken.ensures
          ∙ Followed-last c.args.pattern.now (walk_of c.args.members.now.items) c.loop-k.k c.loop-k.invariant
          (omega (arith, length-walk c.args.members.now.items, w.if-taken-len.true, c.from-taken.ensures, c.len-in-loop-k.ensures))
      | then-taken-len-via-else-taken-len+then-not-admits w ↦
          let at : slice_get c.args.members.now.items c.loop-k.k ≡ Some w.get.result.now = rw c.from-taken.ensures at w.get.ensures in
          c.from-taken.ensures
          ∙ Followed-stop c.args.pattern.now (walk_of c.args.members.now.items) c.loop-k.k c.get-step.result (capture_of w.get.result.now) c.loop-k.invariant c.get-step.ensures
          (sym c.if-is_many.ensures) (walk-here c.args.members.now.items c.loop-k.k w.get.result.now at) (sym w.if-not-admits.ensures)
    ]

pub loop-k-preserved : goal.loop-k-preserved
loop-k-preserved c =
    let at : slice_get c.args.members.now.items c.loop-k.k ≡ Some c.get.result.now = rw c.from-taken.ensures at c.get.ensures in
    Followed-next c.args.pattern.now (walk_of c.args.members.now.items) c.loop-k.k c.get-step.result (capture_of c.get.result.now) c.loop-k.invariant c.get-step.ensures
    (sym c.if-is_many.ensures) (walk-here c.args.members.now.items c.loop-k.k c.get.result.now at) (sym c.if-not-admits.ensures)

pub returns : goal.returns
returns c =
    let same : c.from.result ≡ c.loop-k.k = omega arith in
    same ∙ Followed-done c.args.pattern.now (walk_of c.args.members.now.items) c.loop-k.k c.loop-k.invariant (omega arith)
