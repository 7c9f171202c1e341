use Rattle.std.proofs.Common.{◌≡◌, [], true, false, ap, sym, subst, ◌∙◌, arith, length}
use Rattle.merge_state.specs.Promised.{lines_left}
use Rattle.ds_base.specs.Fronts.{upto}
use Rattle.summary_spec.specs.Job.{declared_of}
use Rattle.watermarks.specs.Least.{least_mark, under}
use Rattle.merge_state.specs.States.{state_is}
use Rattle.merge_state.specs.declared.state.MergeState.{MergeState}
use Rattle.merge_state.proofs.Pushed.{no_answer, pushes_later}
use Rattle.merge_state.proofs.Stepped as stepped
use Rattle.merge_state.proofs.state.MergeState.push_answer.Goals as goal

pub returns-then-not-has_all_answers-clause-all : goal.returns-then-not-has_all_answers-clause-all
returns-then-not-has_all_answers-clause-all c = λ e.
    let same = c.in_ok-push_first.ensures.same c.if-branch.false in
    let none = c.in_ok-push_first.ensures.none c.if-branch.false in
    no_answer (declared_of c.args.job.now) c.push_first.new.self (ap (λ (d : MergeState). d.stage) same.0 ∙ c.requires.stage)
    (subst (λ (d : MergeState). upto (λ a. under (least_mark d.marks) a.first.time) d.waiting ≡ []) (sym same.0) none)
    (λ both. absurd (let never : true ≡ false = sym (c.has_all_answers.ensures.1 both) ∙ c.if-not-has_all_answers.true in cc))

pub push_row-requires-clause-stands : goal.push_row-requires-clause-stands
push_row-requires-clause-stands c =
    let job = declared_of c.args.job.now in
    let s = c.requires.stands in
    let n = c.push_first.new.self in
    let same = c.in_ok-push_first.ensures.same c.if-branch.false in
    let all = c.has_all_answers.ensures.0 c.if-not-has_all_answers.false in
    record {
      shape = s.shape;
      counts = s.counts;
      taken = s.taken;
      gained = s.gained;
      is = stepped.goes_to_rows job s.shape s.counts s.taken s.gained n.waiting n.marks n.profile n.counts.items n.groups n.stage
          (subst (λ (d : MergeState). state_is job s.shape s.counts s.taken s.gained d) (sym same.0) s.is) (ap (λ (d : MergeState). d.stage) same.0 ∙ c.requires.stage) all.0 all.1;
    }

pub returns-clause-pushes : goal.returns-clause-pushes
returns-clause-pushes c =
    let job = declared_of c.args.job.now in
    let n = c.push_first.new.self in
    let same = c.in_ok-push_first.ensures.same c.if-branch.false in
    let all = c.has_all_answers.ensures.0 c.if-not-has_all_answers.false in
    stepped.on_ok c.push_row.result _ _
    (pushes_later job c.args.self.now _ c.push_row.new.self c.args.text.now.items c.push_first.new.text.items c.push_row.new.text.items
    (λ shape counts taken gained h.
    stepped.goes_to_rows job shape counts taken gained n.waiting n.marks n.profile n.counts.items n.groups n.stage
    (subst (λ (d : MergeState). state_is job shape counts taken gained d) (sym same.0) h) (ap (λ (d : MergeState). d.stage) same.0 ∙ c.requires.stage) all.0 all.1)
    same.1)
    c.push_row.ensures.pushes

pub returns-clause-fewer : goal.returns-clause-fewer
returns-clause-fewer c =
    let d = c.args.self.now in
    let n = c.push_first.new.self in
    let same = c.in_ok-push_first.ensures.same c.if-branch.false in
    stepped.if_ok c.push_row.result _ _
    (λ pushed less e.
    let fewer = less e in
    let left : lines_left n ≡ lines_left d = ap lines_left same.0 in
    omega (
      arith,
      fewer,
      left,
      stepped.left_answers n.stage (length n.profile) (length n.counts.items) (ap (λ (x : MergeState). x.stage) same.0 ∙ c.requires.stage),
    ))
    c.push_row.ensures.fewer

pub returns-clause-refused : goal.returns-clause-refused
returns-clause-refused c =
    let same = c.in_ok-push_first.ensures.same c.if-branch.false in
    stepped.on_err c.push_row.result _ _ (λ kept. kept ∙ same.1) c.push_row.ensures.refused
