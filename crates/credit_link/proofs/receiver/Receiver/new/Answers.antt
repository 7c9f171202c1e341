-- A new receiver was given nothing.
use Rattle.std.proofs.Common.{rules, ◌≡◌, [], ap, sym, subst, arith}
use Rattle.credit_link.specs.Receiving.{new_receiver}
use Rattle.node_frames.specs.declared.frame.Frame.{Frame}
use Rattle.sha2.specs.Hashers.{Holds256}
use Rattle.std.proofs.Common.{List, length}
use Rattle.credit_link.specs.Frames.{bytes_of_all, capped}
use Rattle.credit_link.proofs.Pulled.{empty_stands}
use Rattle.credit_link.proofs.receiver.Receiver.new.Goals as goal

pub invariant_of-result : goal.invariant_of-result
invariant_of-result c =
    let none : c.new-2.result.items ≡ [] = c.new-2.ensures in
    let frames : List Frame = c.new-2.result.items in (
      empty_stands c.args.credits c.new-2.result.items c.requires none,
      record {
        whole = omega (arith, c.in-Ok.ensures.len);
        within = (omega arith, omega arith);
        taken_is = sym (ap (λ (fs : List Frame). capped (length fs)) none);
        over_is = λ _. omega (arith, ap (λ (fs : List Frame). length fs) none);
        over_not = search rules;
        at_is = sym (ap (λ (fs : List Frame). capped (length (bytes_of_all fs))) none);
        digested = λ _ _. subst (λ (fs : List Frame). Holds256 c.new.result (bytes_of_all fs)) (sym none) c.new.ensures;
      },
    )

pub returns : goal.returns
returns c = (ap (λ (fs : List Frame). record (new_receiver c.args.credits) { given = fs }) c.new-2.ensures, (invariant_of-result c).0)
