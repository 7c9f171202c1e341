use Rattle.std.proofs.Common.{◌≡◌, true, false, refl, sym, ◌∙◌}
use Rattle.frame_order.proofs.Groups.{member_permitted, member_fitting}
use Rattle.frame_order.proofs.group_order.GroupOrder.admit_member.Goals as goal

pub returns-then-is_finished-clause-exact : goal.returns-then-is_finished-clause-exact
returns-then-is_finished-clause-exact c = (
  λ t. absurd (let never : false ≡ true = t in cc),
  λ m.
      let going = member_permitted c.args.at.now c.args.vals.now c.args.self.now m.permitted in
      absurd (let never : true ≡ false = sym c.if-is_finished.true ∙ c.is_finished.ensures.value ∙ going in cc),
)

pub returns-clause-exact : goal.returns-clause-exact
returns-clause-exact c = (λ t. record { own = c.is_member.ensures.0 c.if-not-is_member.false; permitted = member_fitting c.args.at.now c.args.vals.now c.args.self.now (sym c.is_finished.ensures.value ∙ c.if-is_finished.false) }, λ m. refl)
