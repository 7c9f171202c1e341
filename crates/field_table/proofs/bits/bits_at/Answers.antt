use Rattle.std.proofs.Common.{ℕ, ◌+◌, ◌-◌, ◌*◌, ◌/◌, ◌%◌, ◌^◌, ap, ◌∙◌, arith}
use Rattle.field_table.proofs.BitsLemmas.{bits_within, shifted_and_masked}
use Rattle.field_table.proofs.bits.bits_at.Goals as goal

pub returns : goal.returns
returns c =
    let first = c.args.first in
    let count = c.args.count in
    let end : ℕ = (first + count + 7) / 8 in
    let behind : ℕ = end * 8 - (first + count) in
    shifted_and_masked c.number_of-number.result behind count (omega arith)
    ∙ (ap (λ n. n / 2 ^ behind % 2 ^ count) c.number_of-number.ensures
    ∙ bits_within c.args.bytes.now first count (first / 8) end (λ i. omega (arith, c.type_inv.bytes i)) (omega arith) (omega arith) (omega arith) (omega arith))
