use Rattle.std.proofs.Common.{ℕ, ◌≡◌, ◌≤◌, ◌+◌, ◌∙◌, ap, sym, arith, length}
use Rattle.std.specs.Prelude.{slice_index}
use Rattle.std.proofs.lemmas.List.{length_push}
use Rattle.std.proofs.lemmas.Option.{get_or_from_slice_get}
use Rattle.ds_base.specs.Keys.{key_of}
use Rattle.packed_summaries.proofs.Unpacked.{mapped_more, mapped_all}
use Rattle.packed_summaries.proofs.row.key_of.Goals as goal

pub loop-k-preserved : goal.loop-k-preserved
loop-k-preserved c =
    let key = c.args.packing.now.key in
    let vals = c.args.vals.now in
    let is : c.get.result ≡ slice_index vals c.key_variable.result =
    sym (get_or_from_slice_get vals c.key_variable.result c.get.result 0 c.get.ensures) in
    record {
      filled = ap length c.push.ensures ∙ length_push c.loop-k.key c.get.result ∙ ap (λ (n : ℕ). n + 1) c.loop-k.invariant.filled;
      rest = mapped_more (slice_index vals) key c.loop-k.k c.key_variable.result c.get.result c.loop-k.key
          c.push.new.self (key_of key vals) c.key_variable.ensures.value is c.push.ensures c.loop-k.invariant.rest;
    }

pub returns : goal.returns
returns c =
    let key = c.args.packing.now.key in
    let long : length key ≤ c.loop-k.k = omega arith in
    mapped_all (slice_index c.args.vals.now) key c.loop-k.k c.loop-k.key (key_of key c.args.vals.now) long c.loop-k.invariant.rest
