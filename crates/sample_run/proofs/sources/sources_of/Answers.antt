use Rattle.std.proofs.Common.{ap, ◌∙◌}
use Rattle.ds_base.specs.Outside.{source_of}
use Rattle.sample_run.proofs.Opened.{one_opened}
use Rattle.sample_run.proofs.sources.sources_of.Goals as goal

pub loop-k-preserved : goal.loop-k-preserved
loop-k-preserved c =
    one_opened _ c.loop-k.sources.items c.put.new.list.items c.new.result c.args.files.now.items c.loop-k.k c.get.result.now
    c.loop-k.invariant c.in_ok-put.ensures c.get.ensures (c.new.ensures ∙ ap (λ bytes. source_of bytes bytes 0) (c.in-Ok.ensures.items ∙ c.as_slice.ensures.value))
