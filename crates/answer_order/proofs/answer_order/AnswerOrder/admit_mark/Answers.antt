use Rattle.std.proofs.Common.{◌≡◌, true, false, refl, sym, ◌∙◌}
use Rattle.answer_order.proofs.Frames.{mark_permitted, mark_fitting}
use Rattle.answer_order.proofs.answer_order.AnswerOrder.admit_mark.Goals as goal

pub returns-then-not-fits_mark-clause-exact : goal.returns-then-not-fits_mark-clause-exact
returns-then-not-fits_mark-clause-exact c = (
  λ t. absurd (let never : false ≡ true = t in cc),
  λ m.
      let fits : c.fits_mark.result ≡ true = c.fits_mark.ensures.1 (mark_permitted c.args.mark c.args.self.now m.permitted) in
      absurd (let never : true ≡ false = sym fits ∙ c.if-not-fits_mark.true in cc),
)

pub returns-clause-exact : goal.returns-clause-exact
returns-clause-exact c = (
  λ t. record { own = c.is_time.ensures.0 c.if-not-is_time.false; permitted = mark_fitting c.args.mark c.args.self.now (c.fits_mark.ensures.0 c.if-not-fits_mark.false) },
  λ m. refl,
)
