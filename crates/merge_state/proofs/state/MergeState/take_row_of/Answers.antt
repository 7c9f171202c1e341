use Rattle.std.proofs.Common.{List, Option, subst, sym}
use Rattle.ds_base.specs.declared.capture.Counts.{Counts}
use Rattle.merge_state.specs.States.{StateIs}
use Rattle.merge_state.proofs.Stepped as stepped
use Rattle.merge_state.proofs.state.MergeState.take_row_of.Goals as goal

pub returns : goal.returns
returns c = λ job shape olds more taken gained parser h takes.
    let d = c.args.self.now in
    subst (λ (ks : List (Option Counts)). StateIs job shape.parsers shape.processors more taken gained d.waiting d.marks d.profile ks d.groups d.stage) (sym c.put_counts.ensures)
    (stepped.counts_taken job shape olds more taken gained d.waiting d.marks d.profile d.counts.items d.groups d.stage parser h c.args.capture c.args.counts.now takes)
