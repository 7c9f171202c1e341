use Rattle.std.proofs.Common.{◌++◌, List, ℕ, refl, ap, sym, ◌∙◌, arith, length}
use Rattle.answer_text.specs.Lines.{profile_text}
use Rattle.central_report.specs.Report.{names_of}
use Rattle.summary_spec.specs.Job.{declared_of}
use Rattle.merge_state.proofs.Names.{same_row}
use Rattle.merge_state.proofs.Pushed.{pushes_later}
use Rattle.merge_state.proofs.Stepped as stepped
use Rattle.merge_state.proofs.state.MergeState.push_row.Goals as goal

pub returns-in_ok-push_profile_line-in-Some-clause-pushes : goal.returns-in_ok-push_profile_line-in-Some-clause-pushes
returns-in_ok-push_profile_line-in-Some-clause-pushes c =
    let d = c.args.self.now in
    let row = c.in-Some.row in
    let at = sym c.in-Some.ensures.value in
    record {
      more = profile_text (names_of (declared_of c.args.job.now)) row;
      text = c.in_ok-push_profile_line-in-Some.ensures.pushed ∙ ap (λ (l : List ℕ). c.args.text.now.items ++ l) (same_row c.args.job.now.names.captures.items row);
      stands = λ shape counts taken gained h.
          stepped.pushes_row (declared_of c.args.job.now) shape counts taken gained d.waiting d.marks d.profile d.counts.items d.groups d.stage h c.args.next row c.requires.stage at
          (stepped.some_less d.profile c.args.next row at);
    }

pub push_capture-requires-clause-stands : goal.push_capture-requires-clause-stands
push_capture-requires-clause-stands c =
    let d = c.args.self.now in
    let s = c.requires.stands in
    record {
      shape = s.shape;
      counts = s.counts;
      taken = s.taken;
      gained = s.gained;
      is = stepped.goes_to_captures (declared_of c.args.job.now) s.shape s.counts s.taken s.gained d.waiting d.marks d.profile d.counts.items d.groups d.stage s.is c.args.next c.requires.stage (c.in-None.ensures.past.0 refl);
    }

pub returns-in-None-clause-pushes : goal.returns-in-None-clause-pushes
returns-in-None-clause-pushes c =
    let d = c.args.self.now in
    stepped.on_ok c.push_capture.result _ _
    (pushes_later (declared_of c.args.job.now) d _ c.push_capture.new.self c.args.text.now.items c.args.text.now.items c.push_capture.new.text.items
    (λ shape counts taken gained h.
    stepped.goes_to_captures (declared_of c.args.job.now) shape counts taken gained d.waiting d.marks d.profile d.counts.items d.groups d.stage h c.args.next c.requires.stage (c.in-None.ensures.past.0 refl))
    refl)
    c.push_capture.ensures.pushes

pub returns-in_ok-push_profile_line-in-Some-clause-fewer : goal.returns-in_ok-push_profile_line-in-Some-clause-fewer
returns-in_ok-push_profile_line-in-Some-clause-fewer c = λ e.
    let d = c.args.self.now in
    omega (
      arith,
      stepped.some_less d.profile c.args.next c.in-Some.row (sym c.in-Some.ensures.value),
      stepped.left_rows d.stage (length d.profile) (length d.counts.items) c.args.next c.requires.stage,
    )

pub returns-in-None-clause-fewer : goal.returns-in-None-clause-fewer
returns-in-None-clause-fewer c =
    let d = c.args.self.now in
    stepped.if_ok c.push_capture.result _ _
    (λ pushed less e.
    let fewer = less e in
    omega (arith, fewer, stepped.left_rows d.stage (length d.profile) (length d.counts.items) c.args.next c.requires.stage))
    c.push_capture.ensures.fewer
