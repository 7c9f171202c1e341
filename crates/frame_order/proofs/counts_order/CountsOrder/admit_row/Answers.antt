use Rattle.std.proofs.Common.{◌≡◌, true, false, refl, sym, ◌∙◌}
use Rattle.frame_order.proofs.Rows.{row_permitted, row_fitting}
use Rattle.frame_order.proofs.counts_order.CountsOrder.admit_row.Goals as goal

pub returns-then-not-fits_row-clause-exact : goal.returns-then-not-fits_row-clause-exact
returns-then-not-fits_row-clause-exact c = (
  λ t. absurd (let never : false ≡ true = t in cc),
  λ m.
      let fits : c.fits_row.result ≡ true = c.fits_row.ensures.1 (row_permitted c.args.c c.args.counts.now c.args.self.now m.permitted) in
      absurd (let never : true ≡ false = sym fits ∙ c.if-not-fits_row.true in cc),
)

pub returns-clause-exact : goal.returns-clause-exact
returns-clause-exact c = (
  λ t. record {
    own = (c.is_capture_of.ensures.exact.0 c.if-not-is_capture_of.false, c.are_counts.ensures.0 c.if-not-are_counts.false);
    permitted = row_fitting c.args.c c.args.counts.now c.args.self.now (c.fits_row.ensures.0 c.if-not-fits_row.false);
  },
  λ m. refl,
)
