use Rattle.std.proofs.Common.{◌≡◌, true, false, sym, ◌∙◌}
use Rattle.frame_order.proofs.Items.{mark_permitted}
use Rattle.frame_order.proofs.item_order.ItemOrder.admit_mark.Goals as goal

pub returns-then-not-fits_mark-clause-exact : goal.returns-then-not-fits_mark-clause-exact
returns-then-not-fits_mark-clause-exact c = (
  λ t. absurd (let never : false ≡ true = t in cc),
  λ m.
      let fits : c.fits_mark.result ≡ true = c.fits_mark.ensures.1 (mark_permitted c.args.c c.args.mark c.args.self.now m.permitted) in
      absurd (let never : true ≡ false = sym fits ∙ c.if-not-fits_mark.true in cc),
)
