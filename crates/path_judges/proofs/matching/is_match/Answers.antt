use Rattle.std.proofs.Common.{◌≡◌, ℕ, ◌+◌, ◌-◌, List, drop, sym, subst, arith}
use Rattle.ds_base.proofs.Places.{drop_at}
use Rattle.path_judges.specs.Members.{capture_of, walk_of}
use Rattle.path_judges.specs.Open.{IsOpen}
use Rattle.path_judges.proofs.Followed.{walk-here}
use Rattle.path_judges.proofs.matching.is_match.Goals as goal

pub loop-i-preserved : goal.loop-i-preserved
loop-i-preserved c =
    let walk = walk_of c.args.members.now.items in
    let member = c.get.result.now in
    let turn : c.loop-i.i ≡ c.loop-i.i - 1 + 1 = omega arith in
    let here = drop_at (walk_of c.args.members.now.items) (c.loop-i.i - 1) (capture_of c.get.result.now) (walk-here c.args.members.now.items (c.loop-i.i - 1) c.get.result.now c.get.ensures) in
    let P : List ℕ → Type 0 = λ captures. IsOpen c.args.pattern.now captures c.open_before-positions.result in
    let Q : ℕ → Type 0 = λ n. IsOpen c.args.pattern.now (drop n (walk_of c.args.members.now.items)) c.loop-i.positions in
    subst P (sym here) (c.open_before-positions.ensures (drop (c.loop-i.i - 1 + 1) (walk_of c.args.members.now.items)) (subst Q turn c.loop-i.invariant))
