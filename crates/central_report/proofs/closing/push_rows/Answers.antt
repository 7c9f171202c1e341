use Rattle.std.proofs.Common.{ap, sym, ◌∙◌, ℕ, refl, arith}
use Rattle.answer_text.specs.Lines.{profile_text}
use Rattle.ds_base.specs.Items.{Items}
use Rattle.ds_base.proofs.Places.{one_more_piece}
use Rattle.central_report.proofs.closing.push_rows.Goals as goal
use Rattle.central_report.proofs.closing.push_rows.Goals.{in-Some+in_ok-push_profile_line, in_default}

pub loop-i-preserved : goal.loop-i-preserved
loop-i-preserved c =
    elim c.match-row.branch [
      | in-Some+in_ok-push_profile_line w ↦ one_more_piece (profile_text c.args.job.now.names.captures.items) c.args.profile.now c.loop-i.i w.in-Some.row c.loop-i.text.items _ _
          (sym c.row.ensures.value ∙ w.in-Some.is)
          (ap (λ (text : Items ℕ). text.items) w.text-is ∙ w.in_ok-push_profile_line.ensures.pushed) c.loop-i.invariant
      | in_default w ↦ absurd (omega (arith, w.in_default.ensures.past.0 refl))
    ]
