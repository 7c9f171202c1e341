use Rattle.std.proofs.Common.{◌++◌, ◌≡◌, List, ℕ, Option, true, false, ap, sym, subst, ◌∙◌, arith, length}
use Rattle.answer_text.specs.Lines.{IsNamedIn, answer_text}
use Rattle.central_report.specs.Report.{names_of}
use Rattle.ds_base.specs.declared.verdict.Answer.{Answer}
use Rattle.summary_spec.specs.Job.{declared_of}
use Rattle.watermarks.specs.Least.{least_mark, under}
use Rattle.merge_state.proofs.Names.{as_many, same_answer}
use Rattle.merge_state.proofs.Stepped as stepped
use Rattle.merge_state.proofs.state.MergeState.push_first.Goals as goal

pub returns-then-not-is_under-clause-none : goal.returns-then-not-is_under-clause-none
returns-then-not-is_under-clause-none c = λ e.
    let d = c.args.self.now in
    let a = c.in-Some.answer.now in
    let late : under (least_mark d.marks) a.first.time ≡ false =
    ap (λ (b : Option ℕ). under b a.first.time) (sym c.least.ensures.value) ∙ sym c.is_under.ensures ∙ c.if-not-is_under.true in
    stepped.none_under (λ (x : Answer). under (least_mark d.marks) x.first.time) d.waiting a c.in-Some.ensures late

pub push_answer_line-requires-clause-first : goal.push_answer_line-requires-clause-first
push_answer_line-requires-clause-first c =
    let d = c.args.self.now in
    let s = c.requires.stands in
    let own = stepped.first_of_job (declared_of c.args.job.now) s.shape s.counts s.taken s.gained d.waiting d.marks d.profile d.counts.items d.groups d.stage s.is c.in-Some.answer.now c.in-Some.ensures in
    omega (arith, own.stamp.capture, as_many c.args.job.now.names.captures.items)

pub push_answer_line-requires-clause-verdict : goal.push_answer_line-requires-clause-verdict
push_answer_line-requires-clause-verdict c =
    let d = c.args.self.now in
    let s = c.requires.stands in
    let own = stepped.first_of_job (declared_of c.args.job.now) s.shape s.counts s.taken s.gained d.waiting d.marks d.profile d.counts.items d.groups d.stage s.is c.in-Some.answer.now c.in-Some.ensures in
    subst (λ (n : ℕ). IsNamedIn n c.in-Some.answer.now.verdict) (as_many c.args.job.now.names.captures.items) own.named

pub overflow_add-self : goal.overflow_add-self
overflow_add-self c =
    let d = c.args.self.now in
    let s = c.requires.stands in
    let few = stepped.few_groups (declared_of c.args.job.now) s.shape s.counts s.taken s.gained d.waiting d.marks d.profile d.counts.items d.groups d.stage s.is in
    omega (arith, few)

pub returns-clause-pushes : goal.returns-clause-pushes
returns-clause-pushes c = λ e.
    let d = c.args.self.now in
    let a = c.in-Some.answer.now in
    let pass : under (least_mark d.marks) a.first.time ≡ true =
    ap (λ (b : Option ℕ). under b a.first.time) (sym c.least.ensures.value) ∙ sym c.is_under.ensures ∙ c.if-not-is_under.false in
    record {
      more = answer_text (names_of (declared_of c.args.job.now)) a;
      text = c.in_ok-push_answer_line.ensures.pushed ∙ ap (λ (l : List ℕ). c.args.text.now.items ++ l) (same_answer c.args.job.now.names.captures.items a);
      stands = λ shape counts taken gained h.
          stepped.pushes_answer (declared_of c.args.job.now) shape counts taken gained d.waiting d.marks d.profile d.counts.items d.groups d.stage h a c.pop.new.self c.requires.stage c.in-Some.ensures
          c.pop.ensures pass;
    }

pub returns-clause-fewer : goal.returns-clause-fewer
returns-clause-fewer c = λ e.
    omega (arith, stepped.shorter c.args.self.now.waiting c.in-Some.answer.now c.in-Some.ensures, ap length c.pop.ensures)
