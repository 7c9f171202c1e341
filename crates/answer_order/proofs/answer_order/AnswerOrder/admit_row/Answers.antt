use Rattle.std.proofs.Common.{◌≡◌, true, false, refl, sym, ◌∙◌}
use Rattle.answer_order.proofs.Frames.{row_permitted, row_fitting}
use Rattle.answer_order.proofs.answer_order.AnswerOrder.admit_row.Goals as goal

pub returns-then-not-fits_row-clause-exact : goal.returns-then-not-fits_row-clause-exact
returns-then-not-fits_row-clause-exact c = (
  λ t. absurd (let never : false ≡ true = t in cc),
  λ m.
      let fits : c.fits_row.result ≡ true = c.fits_row.ensures.1 (row_permitted c.args.row.now c.args.self.now m.permitted) in
      absurd (let never : true ≡ false = sym fits ∙ c.if-not-fits_row.true in cc),
)

pub returns-clause-exact : goal.returns-clause-exact
returns-clause-exact c = (
  λ t. record {
    own = c.is_row_of.ensures.0 c.if-not-is_row_of.false;
    permitted = row_fitting c.args.row.now c.args.self.now (c.fits_row.ensures.0 c.if-not-fits_row.false);
  },
  λ m. refl,
)
