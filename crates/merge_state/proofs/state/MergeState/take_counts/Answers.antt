use Rattle.std.proofs.Common.{refl, subst}
use Rattle.node_frames.specs.declared.frame.Frame.{Frame}
use Rattle.node_frames.specs.declared.frame.Frame.TheVariants.{Finish}
use Rattle.merge_state.specs.States.{TakesCounts}
use Rattle.merge_state.proofs.Stepped as stepped
use Rattle.merge_state.proofs.state.MergeState.take_counts.Goals as goal

pub returns-in-CountsRow : goal.returns-in-CountsRow
returns-in-CountsRow c = λ job shape counts more taken gained parser h takes.
    c.take_row_of.ensures job shape counts more taken gained parser h (subst (λ (f : Frame). TakesCounts job shape counts more parser f) c.in-CountsRow.is takes)

pub returns-in-Finish : goal.returns-in-Finish
returns-in-Finish c = λ job shape counts more taken gained parser h takes.
    let d = c.args.self.now in
    stepped.nothing_counted job shape counts more taken gained d.waiting d.marks d.profile d.counts.items d.groups d.stage parser h Finish
    (subst (λ (f : Frame). TakesCounts job shape counts more parser f) c.in-Finish.is takes) (λ k. refl)
