use Rattle.std.proofs.lemmas.Result.{on_ok_weaker}
use Rattle.grouper_state.proofs.Stepped as stepped
use Rattle.grouper_state.proofs.state.GrouperState.take_item.Goals as goal

pub add-requires-clause-may : goal.add-requires-clause-may
add-requires-clause-may c =
    stepped.item_may_come c.requires.job c.requires.shape c.requires.me c.requires.taken c.requires.put c.args.self.now.grouper c.args.self.now.going c.args.self.now.turn c.args.self.now.processors c.args.self.now.mark c.args.self.now.finished c.requires.link c.requires.is c.args.s c.requires.takes

pub add-requires-clause-apart : goal.add-requires-clause-apart
add-requires-clause-apart c =
    stepped.item_apart c.requires.job c.requires.shape c.requires.me c.requires.taken c.requires.put c.args.self.now.grouper c.args.self.now.going c.args.self.now.turn c.args.self.now.processors c.args.self.now.mark c.args.self.now.finished c.requires.link c.requires.is c.args.s c.requires.takes

pub returns : goal.returns
returns c = record {
  takes = on_ok_weaker c.add.result
      (λ is job shape me taken put link h takes.
      stepped.item_taken job shape me taken put c.args.self.now.grouper c.args.self.now.going c.args.self.now.turn c.args.self.now.processors c.args.self.now.mark c.args.self.now.finished link h c.args.s takes c.add.new.self is)
      c.add.ensures.added;
}
