use Rattle.std.proofs.Common.{◌≡◌, ◌+◌, ◌-◌, false, ◌&&◌, get_or, ap, ◌∙◌, arith, []}
use Rattle.path_judges.specs.Open.{is_many}
use Rattle.path_judges.proofs.Steps.{OpenFrom-nil, OpenFrom-nil_start, IsOpen-from_last}
use Rattle.path_judges.proofs.matching.open_at_end.Goals as goal
use Rattle.path_judges.proofs.matching.open_at_end.Goals.{then-is_many, else-is_many}

pub loop-k-init : goal.loop-k-init
loop-k-init c = OpenFrom-nil_start c.args.pattern.now c.len-end.result c.len-end.ensures.steps c.len-end.ensures.most

pub loop-k-preserved : goal.loop-k-preserved
loop-k-preserved c =
    let next = get_or c.loop-k.positions (c.loop-k.k - 1 + 1) false in
    let here : c.if-is_many.positions ≡ (is_many c.get.result && next) =
    elim c.if-is_many.branch [
      | then-is_many w ↦ w.positions-is ∙ ap (λ b. b && next) w.if-is_many.ensures
      | else-is_many w ↦ w.positions-is ∙ w.if-is_many.false ∙ ap (λ b. b && next) w.if-is_many.ensures
    ] in
    OpenFrom-nil c.args.pattern.now c.loop-k.k (c.loop-k.k - 1) c.get.result c.loop-k.positions c.if-is_many.positions (omega arith) (omega arith) c.get.ensures c.loop-k.invariant here

pub returns : goal.returns
returns c = IsOpen-from_last c.args.pattern.now [] c.loop-k.k c.loop-k.positions c.loop-k-test.false c.loop-k.invariant
