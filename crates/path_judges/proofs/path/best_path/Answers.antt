use Rattle.std.proofs.Common.{ℕ, ◌+◌, max, sym, ap, ◌∙◌, subst, arith}
use Rattle.path_judges.specs.Members.{walk_of}
use Rattle.path_judges.proofs.Allowed.{Tried, Tried-fine, Tried-next, Tried-end}
use Rattle.path_judges.proofs.path.best_path.Goals as goal

pub returns-then-is_match : goal.returns-then-is_match
returns-then-is_match c =
    Tried-fine c.args.allow.now.items (walk_of c.args.members.now.items) c.loop-i.i c.get-pattern.result.now c.get-pattern.ensures (sym c.if-is_match.ensures)

pub loop-i-preserved : goal.loop-i-preserved
loop-i-preserved c =
    let P : ℕ → Type 0 = λ n. Tried c.args.allow.now.items (walk_of c.args.members.now.items) (c.loop-i.i + 1) n in
    subst P (sym (c.max-at.ensures ∙ ap (max c.loop-i.at) c.count_begun.ensures))
    (Tried-next c.args.allow.now.items (walk_of c.args.members.now.items) c.loop-i.i c.loop-i.at c.get-pattern.result.now c.loop-i.invariant c.get-pattern.ensures (sym c.if-is_match.ensures))

pub returns : goal.returns
returns c = Tried-end c.args.allow.now.items (walk_of c.args.members.now.items) c.loop-i.i c.loop-i.at c.loop-i.invariant (omega arith)
