use Rattle.std.proofs.Common.{◌<◌, ℕ, arith, subst, sym}
use Rattle.std.proofs.lemmas.Nat.{pow_below}
use Rattle.pcapng_reader.proofs.Powers.{ten_positive}
use Rattle.pcapng_reader.proofs.times.nanoseconds.Goals as goal

pub nonzero_div-result : goal.nonzero_div-result
nonzero_div-result c =
    let P : ℕ → Type 0 = λ n. 0 < n in
    subst P (sym (c.in-Some.ensures.1)) (ten_positive c.from.result)

pub pow-requires : goal.pow-requires
pow-requires c = pow_below c.from-else-resolution-lt128.result 128 (omega (arith, c.from-else-resolution-lt128.ensures, c.ranges.resolution, c.if-resolution-lt128.false))
