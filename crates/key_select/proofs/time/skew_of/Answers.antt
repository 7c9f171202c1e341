use Rattle.std.proofs.Common.{◌≡◌, ◌<◌, length, slice_get, Some, sym, subst}
use Rattle.std.proofs.lemmas.Option.{get_or_from_slice_get}
use Rattle.std.specs.Prelude.{◌≤◌}
use Rattle.ds_base.specs.Times.{hour}
use Rattle.key_select.proofs.Jobs.{skew_there, skew_short}
use Rattle.key_select.proofs.time.skew_of.Goals as goal

pub get-requires : goal.get-requires
get-requires c = subst (λ i. i < length c.args.job.now.skews.items) (sym c.from.ensures) (skew_there c.args.job.now c.args.capture c.requires)

pub returns : goal.returns
returns c =
    let there = subst (λ i. slice_get c.args.job.now.skews.items i ≡ Some c.get.result.now) c.from.ensures c.get.ensures in
    let e = get_or_from_slice_get c.args.job.now.skews.items c.args.capture c.get.result.now 0 there in
    record {
      value = sym e;
      most = subst (λ skew. skew ≤ hour) e (skew_short c.args.job.now c.args.capture c.requires);
    }
