use Rattle.std.proofs.Common.{ℕ, ◌<◌, ◌≤◌, ◌∷◌, [], arith, inl, inr, ⊎_elim}
use Rattle.node_lanes.proofs.Listed.{before_or_not}
use Rattle.parser_captures.proofs.Puts.{more_put, same_put, still_unfinished}
use Rattle.parser_captures.proofs.putting.put_to_groupers.Goals as goal

pub returns-clause-put : goal.returns-clause-put
returns-clause-put g c k less =
    more_put c.args.out.now c.put_all.new.self k (c.args.frame ∷ []) c.put_all.ensures.links c.requires.holds.as_many c.put_all.ensures.holds.as_many
    (omega (arith, less, c.requires.groupers)) (c.put_all.ensures.put k less)

pub returns-clause-merge : goal.returns-clause-merge
returns-clause-merge g c =
    same_put c.args.out.now c.put_all.new.self c.args.groupers c.put_all.ensures.links c.requires.holds.as_many c.put_all.ensures.holds.as_many
    (c.put_all.ensures.others c.args.groupers (omega arith))

pub returns-clause-unfinished : goal.returns-clause-unfinished
returns-clause-unfinished g c =
    still_unfinished c.args.out.now c.put_all.new.self c.args.frame c.put_all.ensures.links c.requires.goes_on c.requires.unfinished
    (λ k. ⊎_elim (λ (less : k < c.args.groupers). inr (c.put_all.ensures.put k less)) (λ (past : c.args.groupers ≤ k). inl (c.put_all.ensures.others k past)) (before_or_not k c.args.groupers))
