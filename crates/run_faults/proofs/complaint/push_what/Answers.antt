use Rattle.std.proofs.Common.{◌≡◌, ◌∙◌, ◌++◌, ap, append_assoc, codes, ℕ, List}
use Rattle.std.specs.Fmt.{decimal}
use Rattle.run_faults.proofs.complaint.push_what.Goals as goal

-- a piece and then a number were put at the end
piece_and_number : (line piece put new : List ℕ) (n m : ℕ) → put ≡ line ++ piece → new ≡ put ++ decimal n → n ≡ m → new ≡ line ++ (piece ++ decimal m)
piece_and_number line piece put new n m p e same =
    e ∙ ap (λ xs. xs ++ decimal n) p ∙ append_assoc line piece (decimal n) ∙ ap (λ k. line ++ (piece ++ decimal k)) same

pub returns-in-NgLength-clause-text : goal.returns-in-NgLength-clause-text
returns-in-NgLength-clause-text c =
    rw c.in-NgLength.is (piece_and_number c.args.line.now (codes "block length ") c.push-in-NgLength.new.self c.push_number-in-NgLength.new.self
    c.from-in-NgLength.result c.in-NgLength.len c.push-in-NgLength.ensures c.push_number-in-NgLength.ensures.text c.from-in-NgLength.ensures)

pub returns-in-NgResolution-clause-text : goal.returns-in-NgResolution-clause-text
returns-in-NgResolution-clause-text c =
    rw c.in-NgResolution.is (piece_and_number c.args.line.now (codes "resolution ") c.push-in-NgResolution.new.self c.push_number-in-NgResolution.new.self
    c.from-in-NgResolution.result c.in-NgResolution.r c.push-in-NgResolution.ensures c.push_number-in-NgResolution.ensures.text c.from-in-NgResolution.ensures)
