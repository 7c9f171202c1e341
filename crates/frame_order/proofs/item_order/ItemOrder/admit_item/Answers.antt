use Rattle.std.proofs.Common.{◌≡◌, true, false, sym, ◌∙◌}
use Rattle.frame_order.proofs.Items.{item_permitted}
use Rattle.frame_order.proofs.item_order.ItemOrder.admit_item.Goals as goal

pub returns-then-not-fits_item-clause-exact : goal.returns-then-not-fits_item-clause-exact
returns-then-not-fits_item-clause-exact c = (
  λ t. absurd (let never : false ≡ true = t in cc),
  λ m.
      let fits : c.fits_item.result ≡ true = c.fits_item.ensures.1 (item_permitted c.args.s.now c.args.self.now m.permitted) in
      absurd (let never : true ≡ false = sym fits ∙ c.if-not-fits_item.true in cc),
)
