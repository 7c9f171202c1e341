use Rattle.std.proofs.Common.{◌++◌, List, ℕ, ap, sym, ◌∙◌, arith, length}
use Rattle.answer_text.specs.Lines.{capture_text, end_text}
use Rattle.central_report.specs.Report.{names_of}
use Rattle.summary_spec.specs.Job.{declared_of}
use Rattle.merge_state.proofs.Names.{same_capture}
use Rattle.merge_state.proofs.Stepped as stepped
use Rattle.merge_state.proofs.state.MergeState.push_capture.Goals as goal

pub returns-then-len-next-clause-pushes : goal.returns-then-len-next-clause-pushes
returns-then-len-next-clause-pushes c =
    let d = c.args.self.now in
    record {
      more = end_text d.groups c.args.summaries;
      text = c.in_ok-push_end_line.ensures.pushed;
      stands = λ shape counts taken gained h.
          stepped.pushes_end (declared_of c.args.job.now) shape counts taken gained d.waiting d.marks d.profile d.counts.items d.groups d.stage h c.args.next c.args.summaries c.requires.stage
          (omega (arith, c.len.ensures, c.if-len-next.true));
    }

pub returns-in-None-clause-all : goal.returns-in-None-clause-all
returns-in-None-clause-all c = λ e shape counts taken gained h.
    let d = c.args.self.now in
    stepped.capture_rests (declared_of c.args.job.now) shape counts taken gained d.waiting d.marks d.profile d.counts.items d.groups d.stage h c.args.next c.args.summaries c.requires.stage
    (omega (arith, c.len.ensures, c.if-len-next.false)) (sym c.counts_at.ensures ∙ c.in-None.is)

pub returns-in_ok-push_capture_line-in-Some-clause-pushes : goal.returns-in_ok-push_capture_line-in-Some-clause-pushes
returns-in_ok-push_capture_line-in-Some-clause-pushes c =
    let d = c.args.self.now in
    let k = c.in-Some.counts in
    record {
      more = capture_text (names_of (declared_of c.args.job.now)) c.args.next k;
      text = c.in_ok-push_capture_line-in-Some.ensures.pushed ∙ ap (λ (l : List ℕ). c.args.text.now.items ++ l) (same_capture c.args.job.now.names.captures.items c.args.next k);
      stands = λ shape counts taken gained h.
          stepped.pushes_capture (declared_of c.args.job.now) shape counts taken gained d.waiting d.marks d.profile d.counts.items d.groups d.stage h c.args.next c.args.summaries k c.requires.stage
          (omega (arith, c.len.ensures, c.if-len-next.false)) (sym c.counts_at.ensures ∙ c.in-Some.is);
    }

pub returns-then-len-next-clause-fewer : goal.returns-then-len-next-clause-fewer
returns-then-len-next-clause-fewer c = λ e.
    let d = c.args.self.now in
    omega (arith, stepped.left_captures d.stage (length d.profile) (length d.counts.items) c.args.next c.args.summaries c.requires.stage)

pub returns-in_ok-push_capture_line-in-Some-clause-fewer : goal.returns-in_ok-push_capture_line-in-Some-clause-fewer
returns-in_ok-push_capture_line-in-Some-clause-fewer c = λ e.
    let d = c.args.self.now in
    omega (arith, c.len.ensures, c.if-len-next.false, stepped.left_captures d.stage (length d.profile) (length d.counts.items) c.args.next c.args.summaries c.requires.stage)
