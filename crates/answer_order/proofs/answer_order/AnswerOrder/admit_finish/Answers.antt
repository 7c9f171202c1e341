use Rattle.std.proofs.Common.{◌≡◌, true, false, refl, sym, ◌∙◌}
use Rattle.answer_order.proofs.Frames.{end_permitted, end_fitting}
use Rattle.answer_order.proofs.answer_order.AnswerOrder.admit_finish.Goals as goal

pub returns-then-is_finished-clause-exact : goal.returns-then-is_finished-clause-exact
returns-then-is_finished-clause-exact c = (
  λ t. absurd (let never : false ≡ true = t in cc),
  λ m.
      let going = end_permitted c.args.self.now m.permitted in
      absurd (let never : true ≡ false = sym c.if-is_finished.true ∙ c.is_finished.ensures ∙ going in cc),
)

pub returns-clause-exact : goal.returns-clause-exact
returns-clause-exact c = (λ t. record { own = tt; permitted = end_fitting c.args.self.now (sym c.is_finished.ensures ∙ c.if-is_finished.false) }, λ m. refl)
