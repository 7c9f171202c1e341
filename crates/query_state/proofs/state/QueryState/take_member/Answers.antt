use Rattle.std.proofs.Common.{◌∙◌, sym}
use Rattle.summary_spec.specs.Job.{declared_of}
use Rattle.query_state.proofs.Stepped as stepped
use Rattle.query_state.proofs.state.QueryState.take_member.Goals as goal

pub returns-then-not-branch : goal.returns-then-not-branch
returns-then-not-branch c = record {
  takes = λ taken put h takes.
      stepped.member_at (declared_of c.args.job.now) taken put c.args.self.now.lanes.items c.args.self.now.marks c.args.self.now.profile c.args.self.now.mark c.args.self.now.next c.args.self.now.finished c.args.link c.args.at c.args.vals h takes
      c.add_at.new.lanes.items c.in_ok-add_at.ensures.added (sym c.in_ok-add_at.ensures.whole ∙ c.if-not-branch.true);
}

pub answer_at-requires-clause-answerable : goal.answer_at-requires-clause-answerable
answer_at-requires-clause-answerable c =
    stepped.answerable_at (declared_of c.args.job.now) c.requires.taken c.requires.put c.args.self.now.lanes.items c.args.self.now.marks c.args.self.now.profile c.args.self.now.mark c.args.self.now.next c.args.self.now.finished c.args.link c.args.at c.args.vals c.requires.is c.requires.takes
    (sym c.in_ok-add_at.ensures.whole ∙ c.if-not-branch.false) c.add_at.new.lanes.items c.in_ok-add_at.ensures.added

pub answer_at-requires-clause-few : goal.answer_at-requires-clause-few
answer_at-requires-clause-few c =
    stepped.few_at (declared_of c.args.job.now) c.requires.taken c.requires.put c.args.self.now.lanes.items c.args.self.now.marks c.args.self.now.profile c.args.self.now.mark c.args.self.now.next c.args.self.now.finished c.args.link c.args.at c.args.vals c.requires.is c.requires.takes
    (sym c.in_ok-add_at.ensures.whole ∙ c.if-not-branch.false) c.add_at.new.lanes.items c.in_ok-add_at.ensures.added

pub returns : goal.returns
returns c = record {
  takes = λ taken put h takes.
      stepped.last_at (declared_of c.args.job.now) taken put c.args.self.now.lanes.items c.args.self.now.marks c.args.self.now.profile c.args.self.now.mark c.args.self.now.next c.args.self.now.finished c.args.link c.args.at c.args.vals h takes
      (sym c.in_ok-add_at.ensures.whole ∙ c.if-not-branch.false) c.add_at.new.lanes.items c.in_ok-add_at.ensures.added
      c.in_ok-answer.answer c.in_ok-answer.ensures.answer c.answer_at.new.profile c.in_ok-answer.ensures.adds (c.in_ok-answer.ensures.few_rows h.few_rows);
}
