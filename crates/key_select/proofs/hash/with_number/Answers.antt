use Rattle.std.proofs.Common.{◌≡◌, length, ap, ◌∙◌, arith, fold}
use Rattle.ds_base.specs.Keys.{fnv_step}
use Rattle.key_select.proofs.Hashing.{all_hashed}
use Rattle.key_select.proofs.hash.with_number.Goals as goal

pub returns : goal.returns
returns c =
    let sixteen : length c.to_be_bytes-bytes.result ≡ 16 = ap length c.to_be_bytes-bytes.ensures in
    all_hashed c.args.from c.loop-byte.hash c.loop-byte.byte-index c.to_be_bytes-bytes.result (omega (arith, sixteen, c.loop-byte-test.false)) c.loop-byte.invariant
    ∙ ap (fold fnv_step c.args.from) c.to_be_bytes-bytes.ensures
