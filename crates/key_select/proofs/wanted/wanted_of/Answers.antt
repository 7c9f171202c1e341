use Rattle.std.proofs.Common.{◌≡◌, ◌<◌, length, slice_get, Some, None, sym, subst}
use Rattle.std.proofs.lemmas.Option.{get_or_from_slice_get}
use Rattle.key_select.proofs.Jobs.{interface_there}
use Rattle.key_select.proofs.wanted.wanted_of.Goals as goal

pub get-requires : goal.get-requires
get-requires c = subst (λ i. i < length c.args.job.now.interfaces.items) (sym c.from.ensures) (interface_there c.args.job.now c.args.capture c.requires)

pub returns : goal.returns
returns c =
    let there = subst (λ i. slice_get c.args.job.now.interfaces.items i ≡ Some c.get.result.now) c.from.ensures c.get.ensures in
    sym (get_or_from_slice_get c.args.job.now.interfaces.items c.args.capture c.get.result.now None there)
