use Rattle.std.proofs.Common.{◌≡◌, true, false, sym, ◌∙◌}
use Rattle.frame_order.proofs.Items.{end_permitted}
use Rattle.frame_order.proofs.item_order.ItemOrder.admit_end.Goals as goal

pub returns-then-not-fits_end-clause-exact : goal.returns-then-not-fits_end-clause-exact
returns-then-not-fits_end-clause-exact c = (
  λ t. absurd (let never : false ≡ true = t in cc),
  λ m.
      let fits : c.fits_end.result ≡ true = c.fits_end.ensures.1 (end_permitted c.args.c c.args.self.now m.permitted) in
      absurd (let never : true ≡ false = sym fits ∙ c.if-not-fits_end.true in cc),
)
