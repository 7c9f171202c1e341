use Rattle.std.proofs.Common.{refl, sym}
use Rattle.query_state.proofs.Stepped as stepped
use Rattle.query_state.proofs.state.QueryState.next_row.Goals as goal

pub returns-in-Some : goal.returns-in-Some
returns-in-Some c = record {
  puts = λ job taken put h.
      stepped.due_row job taken put c.args.self.now.lanes.items c.args.self.now.marks c.args.self.now.profile c.args.self.now.mark c.args.self.now.next c.args.self.now.finished c.requires.open_yet h c.in-Some.row c.requires.none
      (sym c.in-Some.ensures.value) c.in-Some.ensures.sound;
}

pub returns-in-None : goal.returns-in-None
returns-in-None c = record {
  puts = λ job taken put h.
      stepped.due_end job taken put c.args.self.now.lanes.items c.args.self.now.marks c.args.self.now.profile c.args.self.now.mark c.args.self.now.next c.args.self.now.finished c.requires.open_yet h c.requires.none (c.in-None.ensures.past.0 refl);
}
