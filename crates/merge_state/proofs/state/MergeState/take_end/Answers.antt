use Rattle.std.proofs.Common.{subst, sym}
use Rattle.merge_state.specs.States.{StateIs}
use Rattle.merge_state.proofs.Stepped as stepped
use Rattle.merge_state.proofs.state.MergeState.take_end.Goals as goal

pub returns : goal.returns
returns c = λ job shape counts taken more gained h takes.
    let d = c.args.self.now in
    subst (λ ms. StateIs job shape.parsers shape.processors counts more gained d.waiting ms d.profile d.counts.items d.groups d.stage) (sym c.end.ensures)
    (stepped.end_taken job shape counts taken more gained d.waiting d.marks d.profile d.counts.items d.groups d.stage c.args.processor h takes)
