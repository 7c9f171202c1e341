use Rattle.std.proofs.Common.{◌≡◌, ◌<◌, length, slice_get, Some, sym, subst, ◌∙◌}
use Rattle.std.proofs.lemmas.Option.{get_or_from_slice_get}
use Rattle.std.specs.Prelude.{◌≤◌, pos, unsigned_abs}
use Rattle.ds_base.specs.Times.{hour}
use Rattle.key_select.proofs.Jobs.{offset_there, offset_near, offset_read}
use Rattle.key_select.proofs.time.offset_of.Goals as goal

pub get-requires : goal.get-requires
get-requires c = subst (λ i. i < length c.args.job.now.offsets.items) (sym c.from.ensures) (offset_there c.args.job.now c.args.capture c.requires)

pub returns : goal.returns
returns c =
    let there = subst (λ i. slice_get c.args.job.now.offsets.items i ≡ Some c.get.result.now) c.from.ensures c.get.ensures in
    let e = get_or_from_slice_get c.args.job.now.offsets.items c.args.capture c.get.result.now (pos 0) there in
    let near = subst (λ offset. unsigned_abs offset ≤ hour) e (offset_near c.args.job.now c.args.capture c.requires) in
    let same = offset_read c.get.result.now near in
    record { value = same ∙ sym e; most = subst (λ offset. unsigned_abs offset ≤ hour) (sym same) near }
