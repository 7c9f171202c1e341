use Rattle.std.proofs.Common.{ℕ, ◌≡◌, ◌+◌, ◌*◌, ◌-◌, ◌∙◌, ap, arith, take, drop}
use Rattle.std.specs.Prelude.{Some}
use Rattle.packed_summaries.proofs.Stacked.{row_there}
use Rattle.packed_summaries.proofs.row.row_at.Goals as goal

pub returns-clause-value : goal.returns-clause-value
returns-clause-value c =
    let from : ℕ = c.args.i * c.args.stride in
    let one : c.args.stride ≡ from + c.args.stride - from = omega arith in
    row_there c.args.stride c.args.count c.args.words.now c.args.i c.requires.within
    ∙ ap (λ (n : ℕ). Some (take n (drop from c.args.words.now))) one
