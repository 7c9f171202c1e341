use Rattle.std.proofs.Common.{ℕ, ◌%◌, [], Some, ap, subst, refl, ◌∙◌, replicate}
use Rattle.window_grouper.specs.Grouping.{Grouping, StandsFor}
use Rattle.grouper_state.specs.Outgoing.{still_going}
use Rattle.grouper_state.proofs.Stepped as stepped
use Rattle.grouper_state.proofs.state.GrouperState.new.Goals as goal

pub returns : goal.returns
returns c = λ job shape lawful many window some same.
    stepped.starts job shape c.args.me (c.args.me % c.args.processors) c.args.processors c.new.result c.none.result lawful some c.requires.processors same
    (subst (λ (w : ℕ). StandsFor c.new.result w [] []) window c.new.ensures.stands)
    (ap (λ (g : Grouping). g.marks) c.new.ensures.empty ∙ ap (λ (n : ℕ). replicate n (Some 0)) many)
    (ap still_going c.none.ensures) refl
