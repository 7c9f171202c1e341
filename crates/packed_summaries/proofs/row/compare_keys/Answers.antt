use Rattle.std.proofs.Common.{◌≤◌, ◌+◌, ◌∙◌, ap, sym, arith, drop, length}
use Rattle.std.specs.Ordering.{nat_cmp, ordering_then}
use Rattle.std.specs.Cmp.Lexicographic.{slice_cmp}
use Rattle.std.specs.declared.cmp.Ordering.{Ordering}
use Rattle.ds_base.specs.Keys.{key_of}
use Rattle.packed_summaries.specs.Rows.{values_in}
use Rattle.packed_summaries.proofs.Unpacked.{value_there, order_left, order_all, then_other}
use Rattle.packed_summaries.proofs.row.compare_keys.Goals as goal

pub returns-in_default : goal.returns-in_default
returns-in_default c =
    let shape = c.args.packing.now in
    let us = values_in shape.wide c.args.first.now in
    let vs = values_in shape.wide c.args.second.now in
    let k = c.loop-k.k in
    let v = c.key_variable.result in
    let m = c.value_in.result in
    let n = c.value_in-in-loop-k.result in
    let left = order_left shape.key us vs k v m n c.key_variable.ensures.value
    (value_there shape.wide c.args.first.now v c.column-column.result m c.column-column.ensures.value c.value_in.ensures)
    (value_there shape.wide c.args.second.now v c.column-column.result n c.column-column.ensures.value c.value_in-in-loop-k.ensures) in
    c.cmp.ensures
    ∙ sym (then_other (nat_cmp m n) (slice_cmp nat_cmp (key_of (drop (k + 1) shape.key) us) (key_of (drop (k + 1) shape.key) vs))
    (λ same. c.in_default.not-Equal (c.cmp.ensures ∙ same)))
    ∙ sym left ∙ c.loop-k.invariant

pub loop-k-preserved : goal.loop-k-preserved
loop-k-preserved c =
    let shape = c.args.packing.now in
    let us = values_in shape.wide c.args.first.now in
    let vs = values_in shape.wide c.args.second.now in
    let k = c.loop-k.k in
    let v = c.key_variable.result in
    let m = c.value_in.result in
    let n = c.value_in-in-loop-k.result in
    let left = order_left shape.key us vs k v m n c.key_variable.ensures.value
    (value_there shape.wide c.args.first.now v c.column-column.result m c.column-column.ensures.value c.value_in.ensures)
    (value_there shape.wide c.args.second.now v c.column-column.result n c.column-column.ensures.value c.value_in-in-loop-k.ensures) in
    sym (left ∙ ap (λ (r : Ordering). ordering_then r (slice_cmp nat_cmp (key_of (drop (k + 1) shape.key) us) (key_of (drop (k + 1) shape.key) vs)))
    (sym c.cmp.ensures ∙ c.in-Equal.is))
    ∙ c.loop-k.invariant

pub returns : goal.returns
returns c =
    let shape = c.args.packing.now in
    let long : length shape.key ≤ c.loop-k.k = omega arith in
    sym (order_all shape.key (values_in shape.wide c.args.first.now) (values_in shape.wide c.args.second.now) c.loop-k.k long)
    ∙ c.loop-k.invariant
