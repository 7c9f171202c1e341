use Rattle.std.proofs.Common.{◌≡◌, ◌+◌, ◌*◌, ◌≤◌, ◌^◌, lit<, arith}
use Rattle.std.proofs.Math.Nat.{pow-le-pow_right}
use Rattle.std.proofs.lemmas.Nat.{pow-add}
use Rattle.std.proofs.lemmas.Int.Digits.{number_more}
use Rattle.field_table.proofs.bits.long_number_of.Goals as goal

pub overflow_mul-number : goal.overflow_mul-number
overflow_mul-number c =
    let at = c.loop-byte.byte-index in
    let small : 256 ^ at ≤ 256 ^ 15 = let below : at ≤ 15 = omega arith in pow-le-pow_right (lit< tt) below in
    omega arith

pub overflow_add-number : goal.overflow_add-number
overflow_add-number c =
    let at = c.loop-byte.byte-index in
    let small : 256 ^ at ≤ 256 ^ 15 = let below : at ≤ 15 = omega arith in pow-le-pow_right (lit< tt) below in
    omega arith

pub loop-byte-preserved : goal.loop-byte-preserved
loop-byte-preserved c =
    let at = c.loop-byte.byte-index in
    let power : 256 ^ (at + 1) ≡ 256 ^ at * 256 ^ 1 = pow-add 256 at 1 in
    let lt = c.loop-byte-test.true in
    record {
      value = omega (arith, number_more 256 c.args.bytes.now at lt);
      fits = omega (arith, c.type_inv.bytes at);
    }
