use Rattle.std.proofs.Common.{sym, subst}
use Rattle.node_frames.specs.declared.frame.Frame.TheVariants.{Finish}
use Rattle.query_state.specs.States.{StateIs, taken_more}
use Rattle.query_state.proofs.Stepped as stepped
use Rattle.query_state.proofs.state.QueryState.take_end.Goals as goal

pub returns : goal.returns
returns c = record {
  takes = λ job taken put h takes.
      subst (λ ms. StateIs job (taken_more taken c.args.link Finish) put c.args.self.now.lanes.items ms c.args.self.now.profile c.args.self.now.mark c.args.self.now.next c.args.self.now.finished)
      (sym c.end.ensures)
      (stepped.takes_end job taken put c.args.self.now.lanes.items c.args.self.now.marks c.args.self.now.profile c.args.self.now.mark c.args.self.now.next c.args.self.now.finished c.args.link h takes);
}
