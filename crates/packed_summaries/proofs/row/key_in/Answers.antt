use Rattle.std.proofs.Common.{ℕ, ◌≡◌, ◌≤◌, ◌+◌, ◌∙◌, ap, sym, arith, length}
use Rattle.std.specs.Prelude.{slice_index}
use Rattle.std.proofs.lemmas.List.{length_push}
use Rattle.std.proofs.lemmas.Option.{get_or_from_slice_get}
use Rattle.ds_base.specs.Keys.{key_of}
use Rattle.packed_summaries.specs.Rows.{values_in}
use Rattle.packed_summaries.proofs.Unpacked.{mapped_more, mapped_all, value_there}
use Rattle.packed_summaries.proofs.row.key_in.Goals as goal

pub loop-k-preserved : goal.loop-k-preserved
loop-k-preserved c =
    let shape = c.args.packing.now in
    let us = values_in shape.wide c.args.row.now in
    let v = c.key_variable.result in
    let n = c.value_in.result in
    let is : n ≡ slice_index us v =
    sym (get_or_from_slice_get us v n 0 (value_there shape.wide c.args.row.now v c.column.result n c.column.ensures.value c.value_in.ensures)) in
    record {
      filled = ap length c.push.ensures ∙ length_push c.loop-k.key n ∙ ap (λ (m : ℕ). m + 1) c.loop-k.invariant.filled;
      rest = mapped_more (slice_index us) shape.key c.loop-k.k v n c.loop-k.key c.push.new.self (key_of shape.key us)
          c.key_variable.ensures.value is c.push.ensures c.loop-k.invariant.rest;
    }

pub returns : goal.returns
returns c =
    let shape = c.args.packing.now in
    let us = values_in shape.wide c.args.row.now in
    let long : length shape.key ≤ c.loop-k.k = omega arith in
    mapped_all (slice_index us) shape.key c.loop-k.k c.loop-k.key (key_of shape.key us) long c.loop-k.invariant.rest
