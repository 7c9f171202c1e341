use Rattle.std.proofs.Common.{◌≡◌, ◌+◌, ◌++◌, ℕ, List, subst, sym, refl, arith, add-one, set, get_or, take, drop, suc}
use Rattle.profiles.specs.Rows.{added}
use Rattle.profiles.proofs.Classes.{added-more}
use Rattle.profiles.proofs.row.add_classes.Goals as goal

pub loop-k-preserved : goal.loop-k-preserved
loop-k-preserved c =
    let k = c.loop-k.k in
    let xs = c.args.classes.now in
    let ys = c.args.more.now in
    let P : List ℕ → Type 0 = λ l. set l k (get_or l k 0 + get_or ys k 0) ≡ added (take (suc k) xs) (take (suc k) ys) ++ drop (suc k) xs in
    rw add-one (subst P (sym c.loop-k.invariant) (added-more k xs ys (omega arith) (omega arith) _ refl))
