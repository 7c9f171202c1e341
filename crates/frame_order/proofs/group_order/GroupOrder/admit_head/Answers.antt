use Rattle.std.proofs.Common.{◌≡◌, true, false, refl, sym, ◌∙◌}
use Rattle.frame_order.proofs.Groups.{head_permitted, head_fitting}
use Rattle.frame_order.proofs.group_order.GroupOrder.admit_head.Goals as goal

pub returns-then-not-fits_head-clause-exact : goal.returns-then-not-fits_head-clause-exact
returns-then-not-fits_head-clause-exact c = (
  λ t. absurd (let never : false ≡ true = t in cc),
  λ m.
      let fits : c.fits_head.result ≡ true = c.fits_head.ensures.1 (head_permitted c.args.first.now c.args.members c.args.key.now c.args.self.now m.permitted) in
      absurd (let never : true ≡ false = sym fits ∙ c.if-not-fits_head.true in cc),
)

pub returns-clause-exact : goal.returns-clause-exact
returns-clause-exact c = (λ t. record { own = (c.has_none_begun.ensures.0 c.if-not-has_none_begun.false, c.is_head.ensures.0 c.if-not-is_head.false); permitted = head_fitting c.args.first.now c.args.members c.args.key.now c.args.self.now (c.fits_head.ensures.0 c.if-not-fits_head.false) }, λ m. refl)
