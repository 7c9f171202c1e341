use Rattle.std.proofs.Common.{◌<◌, ◌+◌, ◌∷◌, length, drop, ap, ◌∙◌}
use Rattle.std.proofs.lemmas.Option.{get_or_from_slice_get}
use Rattle.ds_base.specs.Keys.{key_of}
use Rattle.ds_base.proofs.Places.{drop_at, all_at}
use Rattle.key_select.proofs.values.key_value.Goals as goal

pub get-requires : goal.get-requires
get-requires c = all_at (λ v. v < length c.args.vals.now) c.args.variables.now.items c.args.i c.get-variable.result.now c.requires.known c.get-variable.ensures

pub returns : goal.returns
returns c =
    ap (λ vs. key_of vs c.args.vals.now) (drop_at c.args.variables.now.items c.args.i c.get-variable.result.now c.get-variable.ensures)
    ∙ ap (λ n. n ∷ key_of (drop (c.args.i + 1) c.args.variables.now.items) c.args.vals.now)
    (get_or_from_slice_get c.args.vals.now c.get-variable.result.now c.get.result 0 c.get.ensures)
