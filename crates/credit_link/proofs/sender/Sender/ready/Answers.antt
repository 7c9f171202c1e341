-- Nothing is left exactly where all bytes of the buffer have gone.
use Rattle.std.proofs.Common.{rules, ◌≡◌, ◌∙◌, ap, drop, length, sym, arith}
use Rattle.std.proofs.lemmas.List.{nil_from_length, length-drop}
use Rattle.std.proofs.lemmas.Bool.Decides.{nat_tests}
use Rattle.credit_link.proofs.Offering.{none_left}
use Rattle.credit_link.specs.Sending.{SenderSeen}
use Rattle.credit_link.proofs.sender.Sender.ready.Goals as goal

pub returns-then-self-clause-ready : goal.returns-then-self-clause-ready
returns-then-self-clause-ready c =
    let left : drop c.self.inside.gone c.self.inside.out.bytes ≡ c.args.self.now.left = ap (λ (s : SenderSeen). s.left) c.self.view_is in
    let within = c.self.invariant.1.gone_within in (
      (λ all.
          let gone : c.self.inside.gone ≡ length c.self.inside.out.bytes = grind (arith, nat_tests) in
          (search rules, sym left ∙ nil_from_length _ (omega (arith, length-drop c.self.inside.gone c.self.inside.out.bytes, gone)))),
      (λ free.
          let gone : c.self.inside.gone ≡ length c.self.inside.out.bytes = none_left _ _ within (left ∙ free.1) in
          grind (arith, nat_tests)),
    )
