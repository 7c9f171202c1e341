use Rattle.std.proofs.Common.{◌≡◌, true, false, refl, sym, ◌∙◌}
use Rattle.answer_order.proofs.Frames.{answer_permitted, answer_fitting}
use Rattle.answer_order.proofs.answer_order.AnswerOrder.admit_answer.Goals as goal

pub returns-then-not-fits_mark-clause-exact : goal.returns-then-not-fits_mark-clause-exact
returns-then-not-fits_mark-clause-exact c = (
  λ t. absurd (let never : false ≡ true = t in cc),
  λ m.
      let fits : c.fits_mark.result ≡ true = c.fits_mark.ensures.1 (answer_permitted c.args.answer.now c.args.self.now m.permitted) in
      absurd (let never : true ≡ false = sym fits ∙ c.if-not-fits_mark.true in cc),
)

pub returns-clause-exact : goal.returns-clause-exact
returns-clause-exact c = (
  λ t. record {
    own = (c.is_answer_of.ensures.0 c.if-not-is_answer_of.false, c.has_room_for.ensures.0 c.if-not-has_room_for.false);
    permitted = answer_fitting c.args.answer.now c.args.self.now (c.fits_mark.ensures.0 c.if-not-fits_mark.false);
  },
  λ m. refl,
)
