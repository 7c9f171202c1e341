use Rattle.std.proofs.Common.{◌∙◌}
use Rattle.dshark_cli.proofs.Centrals.{name_at, name_short}
use Rattle.dshark_cli.proofs.central.name_of.Goals as goal

pub new-requires : goal.new-requires
new-requires c =
    name_short c.args.job.now c.args.capture c.get.result.now c.as_bytes.result.now c.requires.declared (rw c.from.ensures at c.get.ensures) (c.as_bytes.ensures.value ∙ c.as_str.ensures)

pub returns : goal.returns
returns c =
    name_at c.args.job.now c.args.capture c.get.result.now c.new.result c.requires.declared (rw c.from.ensures at c.get.ensures) (c.new.ensures ∙ c.as_bytes.ensures.value ∙ c.as_str.ensures)
